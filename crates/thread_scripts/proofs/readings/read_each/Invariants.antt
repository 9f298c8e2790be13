use Rattle.std.proofs.Common.{◌≡◌, ◌≤◌, ◌++◌, drop, map}
use Rattle.thread_scripts.specs.Grammar.{readings_from}
use Rattle.thread_scripts.specs.Readings.{said}
use Rattle.thread_scripts.proofs.readings.read_each.Given as goal

abbrev pub invariant-loop-i : goal.invariant-loop-i
invariant-loop-i l =
    let labels = map (λ label. (label.name.now, label.place)) l.labels in
    (l.place ≤ l.i)
    × (map said l.readings.items ++ readings_from labels l.place (map (λ line. line.text.now) (drop l.i l.split))
    ≡ readings_from labels 0 (map (λ line. line.text.now) l.split))
