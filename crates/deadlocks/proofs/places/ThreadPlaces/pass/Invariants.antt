use Rattle.std.proofs.Common.{◌≡◌, ◌≤◌, ◌<◌, ◌==◌, ℕ, length, slice_index_or}
use Rattle.deadlocks.specs.declared.places.ThreadPlace.{ThreadPlace}
use Rattle.deadlocks.specs.Places.{place_after}
use Rattle.deadlocks.proofs.places.ThreadPlaces.pass.Given as goal

-- the places before this one have passed the turn, and the others have not
abbrev pub invariant-loop-i : goal.invariant-loop-i
invariant-loop-i l = record {
  count : length l.self.threads.items ≡ length l.initial.self.threads.items;
  done : (j : ℕ) (d : ThreadPlace) → j < l.i
      → slice_index_or l.self.threads.items j d
      ≡ place_after (slice_index_or l.initial.self.threads.items j d) (l.thread == j) l.row l.moves;
  rest : (j : ℕ) (d : ThreadPlace) → l.i ≤ j
      → slice_index_or l.self.threads.items j d ≡ slice_index_or l.initial.self.threads.items j d;
}
