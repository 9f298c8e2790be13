use Rattle.std.proofs.Common.{◌≡◌, drop, map}
use Rattle.std.specs.List.{find}
use Rattle.sequential_object.specs.Paths.{is_dots}
use Rattle.script_checks.proofs.paths.first_dots.Given as goal

abbrev pub invariant-loop-i : goal.invariant-loop-i
invariant-loop-i l =
    find is_dots (map (λ name. name.now) (drop l.i l.names)) ≡ find is_dots (map (λ name. name.now) l.names)
