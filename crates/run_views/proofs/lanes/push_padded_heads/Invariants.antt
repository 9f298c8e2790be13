use Rattle.std.proofs.Common.{◌≡◌, ◌++◌, drop}
use Rattle.run_views.specs.Lanes.{padded_heads}
use Rattle.run_views.proofs.lanes.push_padded_heads.Given as goal

abbrev pub invariant-loop-thread : goal.invariant-loop-thread
invariant-loop-thread l =
    l.text.items ++ padded_heads l.thread (drop l.thread l.widths)
    ≡ l.initial.text.items ++ padded_heads 0 l.widths
