use Rattle.std.proofs.Common.{◌≡◌, drop}
use Rattle.script_checks.specs.Sharing.{first_use_from}
use Rattle.script_checks.proofs.descriptors.first_use.Given as goal

abbrev pub invariant-loop-place : goal.invariant-loop-place
invariant-loop-place l =
    first_use_from l.place l.number (drop l.place l.lines) ≡ first_use_from 0 l.number l.lines
