use Rattle.std.proofs.Common.{◌≡◌, ◌++◌, drop}
use Rattle.explorer.specs.Lists.{places_of}
use Rattle.explorer.proofs.places.places_of.Given as goal

-- those so far and those to come make up the whole
abbrev pub invariant-loop-thread : goal.invariant-loop-thread
invariant-loop-thread l =
    l.places.items ++ places_of l.thread (drop l.thread l.texts) ≡ places_of 0 l.texts
