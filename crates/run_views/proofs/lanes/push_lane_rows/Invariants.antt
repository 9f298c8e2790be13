use Rattle.std.proofs.Common.{◌≡◌, ◌++◌, drop, map}
use Rattle.std.specs.List.{flat_map}
use Rattle.run_views.specs.Lanes.{lane_row_text}
use Rattle.run_views.specs.Seen.{seen}
use Rattle.run_views.proofs.lanes.push_lane_rows.Given as goal

abbrev pub invariant-loop-placed : goal.invariant-loop-placed
invariant-loop-placed l =
    l.text.items
    ++ flat_map (lane_row_text l.calls l.turns l.widths) (map seen (drop l.placed-index l.rows))
    ≡ l.initial.text.items ++ flat_map (lane_row_text l.calls l.turns l.widths) (map seen l.rows)
