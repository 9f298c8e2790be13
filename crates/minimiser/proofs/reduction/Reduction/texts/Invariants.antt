use Rattle.std.proofs.Common.{◌≡◌, ◌++◌, drop}
use Rattle.minimiser.specs.Reductions.{kept_texts}
use Rattle.minimiser.proofs.reduction.Reduction.texts.Given as goal

-- the texts so far and those to come make up the whole
abbrev pub invariant-loop-thread : goal.invariant-loop-thread
invariant-loop-thread l =
    l.kept.items ++ kept_texts (drop l.thread l.self) (drop l.thread l.texts)
    ≡ kept_texts l.self l.texts
