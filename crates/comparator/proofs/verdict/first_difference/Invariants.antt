use Rattle.std.proofs.Common.{◌≡◌, map, take}
use Rattle.comparator.specs.Counted.{counted}
use Rattle.comparator.proofs.verdict.first_difference.Given as goal

abbrev pub invariant-loop-row : goal.invariant-loop-row
invariant-loop-row l =
    map (counted l.turns) (take l.row l.some) ≡ map (counted l.turns) (take l.row l.others)
