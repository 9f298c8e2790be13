use Rattle.std.proofs.Common.{◌-◌}
use Rattle.explorer.specs.Subject.{subject}
use Rattle.minimiser.specs.Failing.{FailsIn}
use Rattle.minimiser.specs.Scopes.{Stands}
use Rattle.minimiser.proofs.minimise.shorten.Given as goal

-- the expectation fails in what is kept, and what may not be taken away stands
abbrev pub invariant-loop-low : goal.invariant-loop-low
invariant-loop-low g l = record {
  fails : FailsIn (subject l.trial) l.target l.kept;
  stands : Stands l.fn.scope (subject l.trial).texts l.kept;
}

abbrev pub decreases-loop-low : goal.decreases-loop-low
decreases-loop-low g l = l.high - l.low
