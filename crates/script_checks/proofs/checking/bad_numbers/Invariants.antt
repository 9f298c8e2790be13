use Rattle.std.proofs.Common.{◌≡◌, ◌+◌, ◌++◌, drop, map}
use Rattle.thread_scripts.specs.Readings.{said}
use Rattle.script_checks.specs.Checks.{bad_from}
use Rattle.script_checks.proofs.checking.bad_numbers.Given as goal

abbrev pub invariant-loop-i : goal.invariant-loop-i
invariant-loop-i l = l.bad.items ++ bad_from (l.i + 1) (map said (drop l.i l.readings))
    ≡ bad_from 1 (map said l.readings)
