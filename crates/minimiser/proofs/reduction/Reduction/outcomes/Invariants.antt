use Rattle.std.proofs.Common.{◌≡◌, ◌++◌, drop}
use Rattle.minimiser.specs.Reductions.{kept_outcomes}
use Rattle.minimiser.proofs.reduction.Reduction.outcomes.Given as goal

-- what is so far and what is to come make up the whole
abbrev pub invariant-loop-thread : goal.invariant-loop-thread
invariant-loop-thread l =
    l.kept.items ++ kept_outcomes (drop l.thread l.self) (drop l.thread l.outcomes)
    ≡ kept_outcomes l.self l.outcomes
