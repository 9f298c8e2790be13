use Rattle.std.proofs.Common.{◌≡◌, ◌+◌, ◌≤◌, length}
use Rattle.sequential_object.specs.Paths.{components_of}
use Rattle.directories.proofs.path.component_count.Given as goal

abbrev pub invariant-loop-next : goal.invariant-loop-next
invariant-loop-next l = record {
  counted : l.count + length (components_of l.rest) ≡ length (components_of l.path);
  few : l.count + length l.rest ≤ length l.path;
}

abbrev pub decreases-loop-next : goal.decreases-loop-next
decreases-loop-next l = length l.rest
