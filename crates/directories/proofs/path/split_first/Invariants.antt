use Rattle.std.proofs.Common.{◌≡◌, ◌≤◌, length}
use Rattle.sequential_object.specs.Paths.{components_of}
use Rattle.directories.proofs.path.split_first.Given as goal

-- only slashes were passed
abbrev pub invariant-loop-at : goal.invariant-loop-at
invariant-loop-at l = record {
  same : components_of l.path ≡ components_of l.rest;
  shorter : length l.rest
      ≤ length l.path;
}

abbrev pub decreases-loop-at : goal.decreases-loop-at
decreases-loop-at l = length l.rest
