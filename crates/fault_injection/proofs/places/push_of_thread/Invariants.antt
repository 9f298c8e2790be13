use Rattle.std.proofs.Common.{◌≤◌, ◌++◌, [], drop}
use Rattle.fault_injection.specs.Places.{places_from}
use Rattle.fault_injection.proofs.Walking.{Walked}
use Rattle.fault_injection.proofs.places.push_of_thread.Given as goal

abbrev pub invariant-loop-row : goal.invariant-loop-row
invariant-loop-row l = record {
  walked : Walked l.thread l.number l.last l.objects l.places.items
      (drop l.row-index l.history)
      (l.initial.places.items ++ places_from l.thread 0 [] l.history);
  few : l.number ≤ l.row-index;
}
