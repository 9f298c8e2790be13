use Rattle.std.proofs.Common.{◌≡◌, ◌++◌, drop, map}
use Rattle.thread_scripts.proofs.words.split_lines.Given as goal

abbrev pub invariant-loop-i : goal.invariant-loop-i
invariant-loop-i l = map (λ line. line.text.now) l.lines.items ++ map (λ t. t.now) (drop l.i l.texts)
    ≡ map (λ t. t.now) l.texts
