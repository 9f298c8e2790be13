use Rattle.std.proofs.Common.{◌≡◌, ◌++◌, drop}
use Rattle.script_checks.specs.Concerns.{warnings_from}
use Rattle.script_checks.proofs.concerns.warnings.Given as goal

abbrev pub invariant-loop-place : goal.invariant-loop-place
invariant-loop-place l =
    l.warnings.items ++ warnings_from l.lines l.place (drop l.place l.lines)
    (drop l.place l.marks.items) ≡ warnings_from l.lines 0 l.lines l.marks.items
