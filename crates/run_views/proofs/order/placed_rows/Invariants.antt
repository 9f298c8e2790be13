use Rattle.std.proofs.Common.{◌≡◌, ◌++◌, drop, map}
use Rattle.run_views.specs.Order.{placed_rows}
use Rattle.run_views.specs.Seen.{seen}
use Rattle.run_views.proofs.order.placed_rows.Given as goal

abbrev pub invariant-loop-thread : goal.invariant-loop-thread
invariant-loop-thread l =
    map seen l.placed.items ++ placed_rows l.thread (drop l.thread l.transcripts)
    ≡ placed_rows 0 l.transcripts
