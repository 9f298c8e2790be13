use Rattle.std.proofs.Common.{◌≡◌, ℕ, None, [], ◌∷◌, ◌++◌, length, ap, subst, rules}
use Rattle.call_turns.specs.Store.{Performs, Stored, number_locked}
use Rattle.call_turns.specs.declared.patience.TurnStart.TheVariants as start
use Rattle.sequential_object.specs.declared.turn_end.TurnEnd.TheVariants as end
use Rattle.lock_machine.specs.Events.{granted_row}
use Rattle.lock_machine.specs.Threads.{timed}
use Rattle.lock_machine.specs.declared.thread.Phase.TheVariants as phase
use Rattle.lock_machine.proofs.Granting.{planned_none, seated}
use Rattle.lock_machine.proofs.events.plan.Goals as goal

pub returns-in-Answers-clause-event : goal.returns-in-Answers-clause-event
returns-in-Answers-clause-event c =
    let patience = c.args.patience in
    let thread = c.args.thread.now in
    let shared = c.args.shared.now in
    let new = c.perform_or_lock.new.self in
    let none : number_locked shared.store.value c.args.call c.args.carried ≡ None = search rules in
    let reply = c.in-Answers.reply in
    let P : Stored → Type 0 = λ h. (patience : ℕ) → Performs patience c.args.carried h c.args.call
    (start.Ended (end.Reply reply)) new in
    let its : P c.deref_mut-store.result.now = search rules in
    let performs : P shared.store.value = subst P c.deref_mut-store.ensures.value its in
    let row : c.len-row.result ≡ length shared.rows.items = search rules in
    let seat = ap (λ n. phase.Granted n None (end.Reply reply)) row in
    let rows : c.push_reserved.new.self.items ≡ shared.rows.items ++ granted_row c.args.turn c.args.call
    ∷ [] = search rules in
    λ clock.
    planned_none patience (number_locked shared.store.value c.args.call c.args.carried) c.args.turn c.args.call
    c.args.carried _ _ none
    (seated patience c.args.turn c.args.call c.args.carried None (start.Ended (end.Reply reply)) (timed thread clock) _
    shared.lock shared.store.value new shared.rows.items _ (performs patience) seat rows)
