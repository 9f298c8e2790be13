use Rattle.std.proofs.Common.{◌≡◌, drop}
use Rattle.deadlocks.specs.Blocked.{are_within}
use Rattle.deadlocks.proofs.blocked.are_within.Given as goal

abbrev pub invariant-loop-row : goal.invariant-loop-row
invariant-loop-row l =
    are_within l.threads (drop l.row-index l.history) ≡ are_within l.threads l.history
