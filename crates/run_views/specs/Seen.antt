-- What contracts see of a row that is borrowed.
use Rattle.run_views.specs.Order.{Placed}
use Rattle.run_views.specs.declared.order.PlacedRow.{PlacedRow}

-- a row with its place, whose row is the one that is borrowed
abbrev pub seen : PlacedRow → Placed
seen p = record { thread = p.thread; number = p.number; row = p.row.now }
