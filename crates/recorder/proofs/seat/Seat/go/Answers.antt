use Rattle.recorder.proofs.Seating.{seated_gone}
use Rattle.recorder.proofs.seat.Seat.go.Goals as goal

pub invariant_of-self-2 : goal.invariant_of-self-2
invariant_of-self-2 g c =
    let s = c.self.inside in
    rw (c.push_reserved.ensures.items, c.reserve.ensures.items)
    (seated_gone g.O.Outside.gives g.O.Outside.given g.O.Outside.failures
    (record {
      from = g.A.Actor.state s.actor_from.value;
      began = s.outside_from.value;
      now = g.A.Actor.state s.actor;
      outside = s.outside;
      steps = s.own.steps.items;
      brought = s.own.outcomes.items;
      ended = s.own.ended;
      number = s.number;
      ahead = s.ahead;
    })
    c.in_ok-note.note _ (rw (← c.self.view_is) at c.requires.calling) c.self.invariant c.if-number-ge-OUTCOMES.false
    c.in_ok-note.ensures.gives c.bring.ensures.given c.bring.ensures.failures)
