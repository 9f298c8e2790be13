use Rattle.std.proofs.Common.{◌≡◌, ◌++◌, drop}
use Rattle.std.specs.List.{flat_map}
use Rattle.run_pictures.specs.Picture.{lane_text}
use Rattle.run_pictures.proofs.picture.push_lanes.Given as goal

abbrev pub invariant-loop-lane : goal.invariant-loop-lane
invariant-loop-lane l =
    l.text.items ++ flat_map lane_text (drop l.lane-index l.lanes)
    ≡ l.initial.text.items ++ flat_map lane_text l.lanes
