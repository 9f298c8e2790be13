use Rattle.std.proofs.Common.{◌≡◌, ◌+◌, ◌≤◌, drop, map}
use Rattle.thread_scripts.specs.Grammar.{gathered, readings_from}
use Rattle.thread_scripts.proofs.Front.{with_front}
use Rattle.thread_scripts.proofs.grammar.read_lines.Given as goal

abbrev pub invariant-loop-i : goal.invariant-loop-i
invariant-loop-i l =
    let labels = map (λ label. (label.name.now, label.place)) l.labels in
    (l.place ≤ l.i)
    × (with_front l.lines.items (gathered (l.i + 1)
    (readings_from labels l.place (map (λ line. line.text.now) (drop l.i l.split))))
    ≡ gathered 1 (readings_from labels 0 (map (λ line. line.text.now) l.split)))
