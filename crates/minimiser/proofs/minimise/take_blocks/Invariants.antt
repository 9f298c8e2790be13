use Rattle.explorer.specs.Subject.{subject}
use Rattle.minimiser.specs.Failing.{FailsIn}
use Rattle.minimiser.specs.Scopes.{Stands}
use Rattle.minimiser.proofs.minimise.take_blocks.Given as goal

-- the expectation fails in what is kept, and what may not be taken away stands
abbrev pub invariant-loop-size : goal.invariant-loop-size
invariant-loop-size g l = record {
  fails : FailsIn (subject l.trial) l.target l.kept;
  stands : Stands l.fn.scope (subject l.trial).texts l.kept;
}

abbrev pub decreases-loop-size : goal.decreases-loop-size
decreases-loop-size g l = l.size
