use Rattle.std.proofs.Common.{◌≡◌, map, take}
use Rattle.comparator.specs.Counted.{counted}
use Rattle.comparator.proofs.verdict.verdict_on.Given as goal

abbrev pub invariant-loop-thread : goal.invariant-loop-thread
invariant-loop-thread l =
    map (map (counted l.turns)) (take l.thread l.some)
    ≡ map (map (counted l.turns)) (take l.thread l.others)
