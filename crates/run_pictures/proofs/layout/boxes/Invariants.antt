use Rattle.std.proofs.Common.{◌≡◌, ◌++◌, drop}
use Rattle.run_pictures.specs.Drawn.{calls_of}
use Rattle.run_pictures.specs.Layout.{calls_of_boxes}
use Rattle.run_pictures.proofs.layout.boxes.Given as goal

abbrev pub invariant-loop-drawn : goal.invariant-loop-drawn
invariant-loop-drawn l =
    calls_of_boxes l.boxes.items ++ calls_of (drop l.drawn-index l.calls) ≡ calls_of l.calls
