use Rattle.std.proofs.Common.{◌≡◌, drop, map}
use Rattle.std.specs.List.{find}
use Rattle.script_checks.specs.Paths.{is_long}
use Rattle.script_checks.proofs.paths.first_long.Given as goal

abbrev pub invariant-loop-i : goal.invariant-loop-i
invariant-loop-i l =
    find is_long (map (λ name. name.now) (drop l.i l.names)) ≡ find is_long (map (λ name. name.now) l.names)
