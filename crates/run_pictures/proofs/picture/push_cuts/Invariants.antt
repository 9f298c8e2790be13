use Rattle.std.proofs.Common.{◌≡◌, ◌++◌, drop}
use Rattle.std.specs.List.{flat_map}
use Rattle.run_pictures.specs.Picture.{cut_text}
use Rattle.run_pictures.proofs.picture.push_cuts.Given as goal

abbrev pub invariant-loop-left : goal.invariant-loop-left
invariant-loop-left l =
    l.text.items ++ flat_map cut_text (drop l.left-index l.cuts)
    ≡ l.initial.text.items ++ flat_map cut_text l.cuts
