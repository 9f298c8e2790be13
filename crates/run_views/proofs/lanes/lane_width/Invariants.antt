use Rattle.std.proofs.Common.{◌≡◌, drop, length, map}
use Rattle.posix_terms.specs.declared.transcript.Row.{Row}
use Rattle.run_views.specs.Lanes.{cell_text, greatest, lane_width}
use Rattle.run_views.proofs.lanes.lane_width.Given as goal

abbrev pub invariant-loop-row : goal.invariant-loop-row
invariant-loop-row l =
    greatest l.width (map (λ (row : Row). length (cell_text l.calls row)) (drop l.row-index l.rows))
    ≡ lane_width l.calls l.thread l.rows
