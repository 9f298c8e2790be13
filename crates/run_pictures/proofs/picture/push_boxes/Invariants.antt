use Rattle.std.proofs.Common.{◌≡◌, ◌++◌, drop}
use Rattle.std.specs.List.{flat_map}
use Rattle.run_pictures.specs.Boxes.{box_text}
use Rattle.run_pictures.proofs.picture.push_boxes.Given as goal

abbrev pub invariant-loop-placed : goal.invariant-loop-placed
invariant-loop-placed l =
    l.text.items ++ flat_map (box_text l.differs) (drop l.placed-index l.boxes)
    ≡ l.initial.text.items ++ flat_map (box_text l.differs) l.boxes
