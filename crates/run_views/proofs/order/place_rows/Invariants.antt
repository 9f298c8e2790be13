use Rattle.std.proofs.Common.{◌≡◌, ◌++◌, drop, map}
use Rattle.run_views.specs.Order.{placed_from}
use Rattle.run_views.specs.Seen.{seen}
use Rattle.run_views.proofs.order.place_rows.Given as goal

abbrev pub invariant-loop-number : goal.invariant-loop-number
invariant-loop-number l =
    map seen l.placed.items ++ placed_from l.thread l.number (drop l.number l.rows)
    ≡ map seen l.initial.placed.items ++ placed_from l.thread 0 l.rows
