use Rattle.std.proofs.Common.{◌≡◌, ◌++◌, drop, map}
use Rattle.explorer.specs.Observations.{clockless}
use Rattle.explorer.proofs.observation.seen_by.Given as goal

abbrev pub invariant-loop-row : goal.invariant-loop-row
invariant-loop-row l =
    l.seen.items ++ map clockless (drop l.row-index l.rows) ≡ map clockless l.rows
