use Rattle.std.proofs.Common.{◌≤◌, drop, length}
use Rattle.explore_texts.specs.Alike.{HasNone}
use Rattle.explore_texts.proofs.alike.next_place.Given as goal

-- those after so many do not have it
abbrev pub invariant-loop-count : goal.invariant-loop-count
invariant-loop-count l = record {
  within : l.count ≤ length l.all;
  after : HasNone l.unmet (drop l.count l.all);
}

abbrev pub decreases-loop-count : goal.decreases-loop-count
decreases-loop-count l = l.count
