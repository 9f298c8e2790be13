use Rattle.std.proofs.Common.{◌≡◌, ◌+◌, ◌++◌, drop, map}
use Rattle.thread_scripts.specs.Readings.{said}
use Rattle.script_checks.specs.Checks.{acting_from}
use Rattle.script_checks.proofs.checking.acting_lines.Given as goal

abbrev pub invariant-loop-i : goal.invariant-loop-i
invariant-loop-i l = map (λ line. line.number) l.lines.items
    ++ acting_from (l.i + 1) (map said (drop l.i l.readings)) ≡ acting_from 1 (map said l.readings)
