use Rattle.explorer.specs.Subject.{subject}
use Rattle.minimiser.specs.Failing.{FailsIn}
use Rattle.minimiser.specs.Scopes.{Stands}
use Rattle.minimiser.proofs.minimise.shorten_all.Given as goal

-- the expectation fails in what is kept, and what may not be taken away stands
abbrev pub invariant-loop-delay : goal.invariant-loop-delay
invariant-loop-delay g l = record {
  fails : FailsIn (subject l.trial) l.target l.kept;
  stands : Stands l.fn.scope (subject l.trial).texts l.kept;
}
