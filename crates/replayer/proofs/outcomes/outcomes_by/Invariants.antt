use Rattle.std.proofs.Common.{◌≡◌}
use Rattle.replayer.specs.Outcomes.{outcomes_by}
use Rattle.replayer.proofs.outcomes.outcomes_by.Given as goal

abbrev pub invariant-loop-thread : goal.invariant-loop-thread
invariant-loop-thread l = l.outcomes.items ≡ outcomes_by l.thread l.records
