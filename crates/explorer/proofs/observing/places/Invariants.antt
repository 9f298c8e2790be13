use Rattle.std.proofs.Common.{◌≡◌, ◌≤◌, length}
use Rattle.explorer.proofs.observing.places.Given as goal

abbrev pub invariant-loop : goal.invariant-loop
invariant-loop l = record {
  so_far : length l.places.items ≡ l.counter;
  within : l.counter ≤ l.count;
}
