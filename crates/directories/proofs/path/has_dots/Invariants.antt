use Rattle.std.proofs.Common.{◌≡◌, length}
use Rattle.std.specs.List.{list_any}
use Rattle.sequential_object.specs.Paths.{components_of, is_dots}
use Rattle.directories.proofs.path.has_dots.Given as goal

abbrev pub invariant-loop-name : goal.invariant-loop-name
invariant-loop-name l = list_any is_dots (components_of l.path) ≡ list_any is_dots (components_of l.rest)

abbrev pub decreases-loop-name : goal.decreases-loop-name
decreases-loop-name l = length l.rest
