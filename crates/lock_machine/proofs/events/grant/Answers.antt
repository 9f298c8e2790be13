use Rattle.std.proofs.Common.{List, [], ◌∷◌, ◌++◌, length, Option, Some, subst, sym, rules}
use Rattle.posix_terms.specs.declared.transcript.HistoryRow.{HistoryRow}
use Rattle.sequential_object.specs.Locked.{keeps_table}
use Rattle.call_turns.specs.declared.patience.Locking.{Locking}
use Rattle.lock_machine.specs.Events.{granted_row}
use Rattle.lock_machine.specs.Held.{phase_started}
use Rattle.lock_machine.specs.Wanted.{HasDecided}
use Rattle.lock_machine.specs.declared.thread.Phase.{Phase}
use Rattle.lock_machine.proofs.Wanting.{started_waits}
use Rattle.lock_machine.specs.Threads.{timed}
use Rattle.lock_machine.proofs.Granting.{seated}
use Rattle.lock_machine.proofs.events.grant.Goals as goal
use Rattle.call_turns.specs.Store.{IsDecided, KeepsStore, Performs}

pub returns-clause-event : goal.returns-clause-event
returns-clause-event c =
    let shared = c.args.shared.now in
    let new = c.perform-start.new.store in
    let performs : Performs c.args.patience c.args.carried shared.store.value c.args.call c.perform-start.result new =
    search rules in
    λ clock. seated c.args.patience c.args.turn c.args.call c.args.carried (Some c.args.object) c.perform-start.result
    (timed c.args.thread.now clock) c.seat.result shared.lock shared.store.value new shared.rows.items
    c.seat.new.history.items performs c.seat.ensures.phase c.seat.ensures.row

pub returns-clause-decided : goal.returns-clause-decided
returns-clause-decided c =
    let shared = c.args.shared.now in
    let new = c.perform-start.new.store in
    let kept : KeepsStore (keeps_table c.args.call) c.perform-start.result shared.store.value new = search rules in
    let decided : IsDecided shared.store.value c.args.call c.args.carried.moved c.args.locking = search rules in
    let waits : HasDecided (phase_started (length shared.rows.items) (Some c.args.object) c.args.call c.args.carried
    c.perform-start.result) (shared.rows.items ++ granted_row c.args.turn c.args.call ∷ []) new
    (Some c.args.locking) =
    started_waits shared.rows.items c.args.turn c.args.call c.args.carried (Some c.args.object) c.perform-start.result
    shared.store.value new c.args.locking decided kept in
    subst (λ (w : Option Locking). HasDecided c.seat.result c.seat.new.history.items new w) (sym c.requires.wanted)
    (subst (λ (p : Phase). HasDecided p c.seat.new.history.items new (Some c.args.locking)) (sym c.seat.ensures.phase)
    (subst (λ (l : List HistoryRow). HasDecided
    (phase_started (length shared.rows.items) (Some c.args.object) c.args.call c.args.carried c.perform-start.result) l
    new (Some c.args.locking)) (sym c.seat.ensures.row) waits))
