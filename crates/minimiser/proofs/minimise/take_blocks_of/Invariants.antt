use Rattle.std.proofs.Common.{◌-◌, length}
use Rattle.explorer.specs.Subject.{subject}
use Rattle.minimiser.specs.Failing.{FailsIn}
use Rattle.minimiser.specs.Scopes.{Stands}
use Rattle.minimiser.proofs.minimise.take_blocks_of.Given as goal

-- the expectation fails in what is kept, and what may not be taken away stands
abbrev pub invariant-loop-from : goal.invariant-loop-from
invariant-loop-from g l = record {
  fails : FailsIn (subject l.trial) l.target l.kept;
  stands : Stands l.fn.scope (subject l.trial).texts l.kept;
}

abbrev pub decreases-loop-from : goal.decreases-loop-from
decreases-loop-from g l = length l.steps - l.from
