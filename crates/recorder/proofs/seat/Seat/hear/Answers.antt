use Rattle.recorder.proofs.Playing.{heard_replied}
use Rattle.recorder.proofs.Seating.{seated_heard}
use Rattle.recorder.proofs.seat.Seat.hear.Goals as goal

pub invariant_of-self : goal.invariant_of-self
invariant_of-self g c =
    let s = c.self.inside in
    rw c.note_reply.ensures
    (seated_heard g.O.Outside.gives g.O.Outside.given g.O.Outside.failures
    (record {
      from = g.A.Actor.state s.actor_from.value;
      began = s.outside_from.value;
      now = g.A.Actor.state s.actor;
      outside = s.outside;
      steps = s.own.steps.items;
      brought = s.own.outcomes.items;
      ended = s.own.ended;
      number = s.number;
      ahead = s.ahead;
    })
    c.args.reply (rw (← c.self.view_is) at c.requires.calling) c.self.invariant)

pub returns-clause-ready : goal.returns-clause-ready
returns-clause-ready g c =
    let calling = rw (← c.self.view_is) at c.requires.calling in
    (calling.0, rw c.note_reply.ensures (heard_replied c.self.inside.own.steps.items c.args.reply calling.1))
