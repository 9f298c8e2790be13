use Rattle.std.proofs.Common.{◌≡◌, ◌++◌, drop}
use Rattle.explorer.proofs.copies.outcomes_copied.Given as goal

abbrev pub invariant-loop-of_thread : goal.invariant-loop-of_thread
invariant-loop-of_thread l = l.copied.items ++ drop l.of_thread-index l.outcomes ≡ l.outcomes
