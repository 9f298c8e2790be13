use Rattle.std.proofs.Common.{◌≡◌, ◌++◌, drop, map}
use Rattle.minimiser.specs.Rounds.{delays_among}
use Rattle.minimiser.proofs.delays.push_delays.Given as goal

-- those so far and those to come make up the whole
abbrev pub invariant-loop-i : goal.invariant-loop-i
invariant-loop-i l =
    l.delays.items ++ delays_among l.thread l.i (map (λ line. line.now) (drop l.i l.line-items))
    ≡ l.initial.delays.items ++ delays_among l.thread 0 (map (λ line. line.now) l.line-items)
