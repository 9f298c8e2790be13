use Rattle.std.proofs.Common.{◌≡◌, ◌++◌, drop}
use Rattle.run_views.specs.Lanes.{empty_cells}
use Rattle.run_views.proofs.lanes.push_all_empty.Given as goal

abbrev pub invariant-loop-width : goal.invariant-loop-width
invariant-loop-width l =
    l.text.items ++ empty_cells (drop l.width-index l.widths)
    ≡ l.initial.text.items ++ empty_cells l.widths
