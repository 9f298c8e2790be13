use Rattle.std.proofs.Common.{◌≡◌, map, take}
use Rattle.answered_calls.specs.Lines.{line_at}
use Rattle.answered_calls.proofs.lines.lines_of_places.Given as goal

abbrev pub invariant-loop-place : goal.invariant-loop-place
invariant-loop-place l =
    l.lines.items
    ≡ map (line_at l.counted) (take l.place-index l.places)
