use Rattle.std.proofs.Common.{◌≡◌, map, take}
use Rattle.std.specs.List.{All}
use Rattle.script_checks.specs.Checks.{StandsInLine}
use Rattle.script_checks.proofs.checking.mistakes.Given as goal

abbrev pub invariant-loop-i : goal.invariant-loop-i
invariant-loop-i l = (map (λ bad. bad.number) l.shown.items ≡ take l.i l.numbers)
    × All (StandsInLine (map (λ t. t.now) l.texts)) l.shown.items
