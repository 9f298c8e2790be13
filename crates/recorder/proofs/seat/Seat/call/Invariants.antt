use Rattle.std.proofs.Common.{◌≡◌}
use Rattle.recorder.specs.Seats.{IsCalling}
use Rattle.recorder.proofs.seat.Seat.call.Given as goal

abbrev pub invariant-loop : goal.invariant-loop
invariant-loop g l =
    (goal.iterator-loop g).can_next l.iterator' × (goal.iterator-loop g).is_finite l.iterator'
    × ((l.self.from ≡ l.initial.self.from) × (l.self.began ≡ l.initial.self.began) × IsCalling l.self)
