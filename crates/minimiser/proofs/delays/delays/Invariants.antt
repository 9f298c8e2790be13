use Rattle.std.proofs.Common.{◌≡◌, ◌++◌, drop}
use Rattle.minimiser.specs.Rounds.{delays_of}
use Rattle.minimiser.proofs.delays.delays.Given as goal

-- those so far and those to come make up the whole
abbrev pub invariant-loop-thread : goal.invariant-loop-thread
invariant-loop-thread l =
    l.delays.items ++ delays_of l.thread (drop l.thread l.texts) ≡ delays_of 0 l.texts
