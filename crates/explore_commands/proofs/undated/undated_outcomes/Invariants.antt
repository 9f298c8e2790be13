use Rattle.std.proofs.Common.{◌≡◌}
use Rattle.explore_commands.specs.Undated.{undated_outcomes}
use Rattle.explore_commands.proofs.undated.undated_outcomes.Given as goal

abbrev pub invariant-loop-thread : goal.invariant-loop-thread
invariant-loop-thread l = l.outcomes.items ≡ undated_outcomes l.thread l.records
