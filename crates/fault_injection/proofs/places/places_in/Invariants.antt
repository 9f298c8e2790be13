use Rattle.std.proofs.Common.{◌≡◌, ◌≤◌, ◌-◌, ◌++◌, []}
use Rattle.std.specs.Prelude.{flat_map}
use Rattle.std.specs.List.{range_with_len}
use Rattle.fault_injection.specs.Places.{places_from, places_in}
use Rattle.fault_injection.proofs.places.places_in.Given as goal

-- the places so far, and those of the threads from this on
abbrev pub invariant-loop-thread : goal.invariant-loop-thread
invariant-loop-thread l = record {
  whole : l.places.items
      ++ flat_map (λ thread. places_from thread 0 [] l.history)
      (range_with_len l.thread (l.threads - l.thread))
      ≡ places_in l.threads l.history;
  within : l.thread ≤ l.threads;
}
