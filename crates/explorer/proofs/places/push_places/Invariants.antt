use Rattle.std.proofs.Common.{◌≡◌, ◌++◌, drop, map}
use Rattle.explorer.specs.Lists.{places_in}
use Rattle.explorer.proofs.places.push_places.Given as goal

-- those so far and those to come make up the whole
abbrev pub invariant-loop-above : goal.invariant-loop-above
invariant-loop-above l =
    l.places.items
    ++ places_in l.thread l.above (map (λ line. line.now) (drop l.above l.line-items))
    ≡ l.initial.places.items ++ places_in l.thread 0 (map (λ line. line.now) l.line-items)
