use Rattle.std.proofs.Common.{◌≡◌, ◌≤◌, ◌++◌, drop, map}
use Rattle.thread_scripts.specs.Labels.{labels_from}
use Rattle.thread_scripts.proofs.labels.labels.Given as goal

abbrev pub invariant-loop-i : goal.invariant-loop-i
invariant-loop-i l = (l.place ≤ l.i)
    × (map (λ label. (label.name.now, label.place)) l.labels.items
    ++ labels_from l.place (map (λ line. line.text.now) (drop l.i l.lines))
    ≡ labels_from 0 (map (λ line. line.text.now) l.lines))
