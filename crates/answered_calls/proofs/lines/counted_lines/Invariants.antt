use Rattle.std.proofs.Common.{◌≡◌, ◌++◌, ◌+◌, drop, map}
use Rattle.answered_calls.specs.Lines.{counted_from}
use Rattle.answered_calls.proofs.lines.counted_lines.Given as goal

-- the numbers so far, and those of the lines from here on
abbrev pub invariant-loop-i : goal.invariant-loop-i
invariant-loop-i l =
    l.numbers.items ++ counted_from (l.i + 1) (map (λ line. line.now) (drop l.i l.lines.items))
    ≡ counted_from 1 (map (λ line. line.now) l.lines.items)
