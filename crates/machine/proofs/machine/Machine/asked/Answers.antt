use Rattle.std.proofs.Common.{◌<◌, length, sym, ap, ◌∙◌, subst}
use Rattle.lock_machine.specs.Refusals.{phase_at}
use Rattle.lock_model.specs.Held.{has_end}
use Rattle.machine.specs.Finishing.{is_ended}
use Rattle.machine.specs.Shown.{Shown}
use Rattle.machine.proofs.EndsLast.{ends_last}
use Rattle.machine.proofs.machine.Machine.asked.Goals as goal

pub returns-clause-end : goal.returns-clause-end
returns-clause-end g c =
    let m = c.self.inside in
    let D = g.row.D.Denot in
    let x : Shown D = record { whole = m.calls; log = m.log; doors = m.doors.items; stop = m.stop } in
    let inside = subst (λ (y : Shown D). c.args.i < length y.whole.threads) (sym c.self.view_is) c.requires in
    ap has_end c.asked.ensures ∙ ends_last D x c.self.invariant c.arising_states.ensures.steps c.one_event.ensures
    c.args.i inside ∙ ap (λ (y : Shown D). is_ended (phase_at y.whole c.args.i)) c.self.view_is
