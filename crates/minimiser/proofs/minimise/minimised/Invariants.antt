use Rattle.explorer.specs.Subject.{subject}
use Rattle.minimiser.specs.Failing.{FailsIn}
use Rattle.minimiser.specs.Rounds.{size_of}
use Rattle.minimiser.specs.Scopes.{Stands}
use Rattle.minimiser.proofs.minimise.minimised.Given as goal

-- the expectation fails in what is kept, and what may not be taken away stands
abbrev pub invariant-loop-delays : goal.invariant-loop-delays
invariant-loop-delays g l = record {
  fails : FailsIn (subject l.trial) l.target l.kept;
  stands : Stands l.fn.scope (subject l.trial).texts l.kept;
}

-- less is kept after each round
abbrev pub decreases-loop-delays : goal.decreases-loop-delays
decreases-loop-delays g l = size_of l.kept
