use Rattle.std.proofs.Common.{[]}
use Rattle.deadlocks.specs.Places.{ArePlaces}
use Rattle.deadlocks.proofs.places.ThreadPlaces.before.Given as goal

abbrev pub invariant-loop-thread : goal.invariant-loop-thread
invariant-loop-thread l = ArePlaces l.thread [] l.history l.places.items
