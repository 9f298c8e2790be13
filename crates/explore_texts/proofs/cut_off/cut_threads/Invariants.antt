use Rattle.std.proofs.Common.{◌≡◌, ◌++◌, drop}
use Rattle.explore_texts.specs.CutOffs.{cut_threads}
use Rattle.explore_texts.proofs.cut_off.cut_threads.Given as goal

-- those so far, and those from here on
abbrev pub invariant-loop-thread : goal.invariant-loop-thread
invariant-loop-thread l =
    l.cut.items ++ cut_threads l.ended l.thread (drop l.thread l.texts) (drop l.thread l.seen)
    ≡ cut_threads l.ended 0 l.texts l.seen
