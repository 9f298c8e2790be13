use Rattle.std.proofs.Common.{◌≡◌, drop, map}
use Rattle.thread_scripts.specs.Labels.{place_of}
use Rattle.thread_scripts.proofs.labels.place_of.Given as goal

abbrev pub invariant-loop-label : goal.invariant-loop-label
invariant-loop-label l = place_of l.name (map (λ label. (label.name.now, label.place)) (drop l.label-index l.labels))
    ≡ place_of l.name (map (λ label. (label.name.now, label.place)) l.labels)
