use Rattle.std.proofs.Common.{ap}
use Rattle.thread_scripts.specs.Meaning.{next_of}
use Rattle.worker_notes.specs.Plays.{last_reply}
use Rattle.worker_notes.specs.declared.own.Noted.{Noted}
use Rattle.recorder.proofs.Seating.{seated_asked, stands_behind}
use Rattle.recorder.proofs.seat.Seat.ask.Goals as goal

pub invariant_of-self-2 : goal.invariant_of-self-2
invariant_of-self-2 g c =
    let s = c.self.inside in
    let note = c.in_ok-note.ensures.note in
    rw (c.push_reserved.ensures.items, c.ask_next.ensures.notes)
    (seated_asked g.O.Outside.gives g.O.Outside.given g.O.Outside.failures
    (record {
      from = g.A.Actor.state s.actor_from.value;
      began = s.outside_from.value;
      now = g.A.Actor.state s.actor;
      outside = s.outside;
      steps = s.own.steps.items;
      brought = s.own.outcomes.items;
      ended = s.own.ended;
      number = s.number;
      ahead = s.ahead;
    })
    c.in_ok-note.note _ c.is_end-ended.result (rw (← c.self.view_is) at c.requires.ready) c.self.invariant
    (ap (λ (n : Noted). n.step) note) (ap (λ (n : Noted). n.reply) note) c.in_ok-note.ensures.after
    c.is_end-ended.ensures)

pub returns-clause-behind : goal.returns-clause-behind
returns-clause-behind g c =
    let s = c.self.inside in
    rw (
      c.kind-kind.ensures,
      c.is_end-ended.ensures,
      c.push_reserved.ensures.items,
      c.ask_next.ensures.notes,
      c.in_ok-note.ensures.note,
    )
    (stands_behind (record {
      from = g.A.Actor.state s.actor_from.value;
      began = s.outside_from.value;
      now = g.A.Actor.state s.actor;
      outside = s.outside;
      steps = s.own.steps.items;
      brought = s.own.outcomes.items;
      ended = s.own.ended;
      number = s.number;
      ahead = s.ahead;
    })
    (next_of (last_reply s.own.steps.items) (g.A.Actor.state s.actor)).0 _ (rw (← c.self.view_is) at c.requires.ready))
