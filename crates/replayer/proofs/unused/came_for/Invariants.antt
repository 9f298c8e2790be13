use Rattle.std.proofs.Common.{◌≡◌, ◌+◌, ◌≤◌, drop}
use Rattle.replayer.specs.Outcomes.{came_for}
use Rattle.replayer.proofs.unused.came_for.Given as goal

abbrev pub invariant-loop-row : goal.invariant-loop-row
invariant-loop-row l = (l.count + came_for l.thread (drop l.row-index l.rows) ≡ came_for l.thread l.rows)
    × (l.count ≤ l.row-index)
