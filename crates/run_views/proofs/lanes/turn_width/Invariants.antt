use Rattle.std.proofs.Common.{◌≡◌, codes, drop, length, map}
use Rattle.std.specs.Fmt.{decimal}
use Rattle.run_views.specs.Lanes.{greatest}
use Rattle.run_views.specs.Order.{Placed}
use Rattle.run_views.specs.Seen.{seen}
use Rattle.run_views.proofs.lanes.turn_width.Given as goal

abbrev pub invariant-loop-placed : goal.invariant-loop-placed
invariant-loop-placed l =
    greatest l.width (map (λ (p : Placed). length (decimal p.row.turn.clock))
    (map seen (drop l.placed-index l.rows)))
    ≡ greatest (length (codes "turn")) (map (λ (p : Placed). length (decimal p.row.turn.clock))
    (map seen l.rows))
