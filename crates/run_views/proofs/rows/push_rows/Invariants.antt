use Rattle.std.proofs.Common.{◌≡◌, ◌++◌, drop, map}
use Rattle.std.specs.List.{flat_map}
use Rattle.run_views.specs.Rows.{viewed_row_text}
use Rattle.run_views.specs.Seen.{seen}
use Rattle.run_views.proofs.rows.push_rows.Given as goal

abbrev pub invariant-loop-placed : goal.invariant-loop-placed
invariant-loop-placed l =
    l.text.items ++ flat_map (viewed_row_text l.view) (map seen (drop l.placed-index l.rows))
    ≡ l.initial.text.items ++ flat_map (viewed_row_text l.view) (map seen l.rows)
