use Rattle.std.proofs.Common.{take}
use Rattle.explorer.specs.Subject.{subject}
use Rattle.minimiser.specs.Scopes.{Stands}
use Rattle.minimiser.proofs.Taking.{Round}
use Rattle.minimiser.proofs.minimise.take.Given as goal

-- the steps so far are tried, and what they do not take away stands
abbrev pub invariant-loop-step : goal.invariant-loop-step
invariant-loop-step g l = record {
  round : Round (subject l.trial) l.target l.initial.kept l.kept l.taken (take l.step-index l.steps);
  stands : Stands l.fn.scope (subject l.trial).texts l.kept;
}
