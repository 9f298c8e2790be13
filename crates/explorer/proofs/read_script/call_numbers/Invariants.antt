use Rattle.std.proofs.Common.{◌≡◌, ◌++◌, Some, drop, map}
use Rattle.explorer.specs.Delayed.{works_from}
use Rattle.explorer.proofs.read_script.call_numbers.Given as goal

-- the numbers so far and those of the lines that are left make up the whole
abbrev pub invariant-loop-above : goal.invariant-loop-above
invariant-loop-above l =
    l.numbers.items ++ works_from Some l.above (map (λ line. line.now) (drop l.above l.lines))
    ≡ works_from Some 0 (map (λ line. line.now) l.lines)
