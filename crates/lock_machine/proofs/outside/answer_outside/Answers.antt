use Rattle.std.proofs.Common.{◌≡◌, ◌+◌, ◌^◌, ℕ, Bool, List, Option, Some, None, true, false, refl, sym, ap, ◌∙◌, subst}
use Rattle.std.proofs.Common.{length, rules}
use Rattle.std.proofs.lemmas.Option.{none-some, slice_get_read}
use Rattle.std.specs.Option.{option_map}
use Rattle.call_turns.specs.Store.{Stored}
use Rattle.posix_terms.specs.Calls.{Call}
use Rattle.det_mutex.specs.declared.lock.DetLock.{DetLock}
use Rattle.lock_machine.specs.Births.{BornWithin}
use Rattle.lock_machine.specs.Wanted.{IsWanted, KeepsCalls, LeavesWanted, call_at, kept_call, wanted_call}
use Rattle.lock_machine.specs.declared.thread.Phase.{Phase}
use Rattle.lock_machine.proofs.Wanting.{calls_set}
use Rattle.std.specs.Prelude.{nat_le, slice_get}
use Rattle.std.proofs.Math.ListN.{set}
use Rattle.std.proofs.lemmas.List.{get_or-set_same}
use Rattle.det_mutex.specs.Attempt.{freed}
use Rattle.logical_clocks.specs.ThreadClocks.{clock_at, no_thread, with_clock}
use Rattle.logical_clocks.specs.declared.clocks.ThreadClock.{ThreadClock}
use Rattle.posix_terms.specs.declared.transcript.HistoryRow.{HistoryRow}
use Rattle.lock_machine.specs.Outings.{AnswersOutside, EndsTurn, answer_cost, outside_parts, table_freed}
use Rattle.lock_machine.specs.Held.{phase_behind, told_as}
use Rattle.lock_machine.specs.declared.machine.Shared.{Shared}
use Rattle.lock_machine.specs.Threads.{timed}
use Rattle.lock_machine.proofs.Parting.{concludes_made, concludes_pending, holds_locks, got_set, object_holder}
use Rattle.lock_machine.proofs.Bearing.{few_born}
use Rattle.lock_machine.proofs.outside.answer_outside.Goals as goal

pub returns-in_default-outcome-clause-event : goal.returns-in_default-outcome-clause-event
returns-in_default-outcome-clause-event c =
    let old = outside_parts (timed c.args.thread.now (clock_at c.args.clocks.now c.args.i)) c.args.lock.now
    c.args.shared.now.lock c.args.shared.now.store.value c.args.shared.now.rows.items in
    let held : holds_locks c.args.i c.args.outing old ≡ true = search rules in
    let rows = c.args.shared.now.rows in
    let size : rows.len ≡ length rows.items = search rules in
    let there : slice_get rows.items c.args.outing.row ≡ Some c.in-Some.row.now =
    slice_get_read rows.items rows.len c.args.outing.row c.in-Some.row.now size
    (c.in-Some.ensures.variant.0 refl) c.in-Some.ensures.value in
    let none : c.in-Some.row.now.outcome ≡ None = search rules in
    subst (λ (rows : List HistoryRow). AnswersOutside c.args.patience None c.args.i c.args.outing old
    (record old { rows = rows })) (sym
    (got_set c.args.shared.now.rows.items c.args.outing.row c.in-Some.row.now there))
    (concludes_pending c.args.patience c.args.i c.args.outing old c.in-Some.row.now held there none)

pub free-requires : goal.free-requires
free-requires c =
    let old = outside_parts (timed c.args.thread.now (clock_at c.args.clocks.now c.args.i)) c.args.lock.now
    c.args.shared.now.lock c.args.shared.now.store.value c.args.shared.now.rows.items in
    let held : holds_locks c.args.i c.args.outing old ≡ true = search rules in
    object_holder c.args.i c.args.outing old held

pub returns-clause-event : goal.returns-clause-event
returns-clause-event c =
    let old = outside_parts (timed c.args.thread.now (clock_at c.args.clocks.now c.args.i)) c.args.lock.now
    c.args.shared.now.lock c.args.shared.now.store.value c.args.shared.now.rows.items in
    let held : holds_locks c.args.i c.args.outing old ≡ true = search rules in
    let rows = c.args.shared.now.rows in
    let size : rows.len ≡ length rows.items = search rules in
    let there : slice_get rows.items c.args.outing.row ≡ Some c.in-Some.row.now =
    slice_get_read rows.items rows.len c.args.outing.row c.in-Some.row.now size
    (c.in-Some.ensures.variant.0 refl) c.in-Some.ensures.value in
    let came : c.in-Some.row.now.outcome ≡ Some c.in-Some-outcome.outcome.now = search rules in
    let room : nat_le (old.thread.clock + answer_cost c.args.outing.keeps_table) (2 ^ 62) ≡ true = search rules in
    let clocks : c.add.new.self ≡ with_clock c.args.clocks.now c.args.i
    (clock_at c.args.clocks.now c.args.i + c.answer_cost.result) = search rules in
    let at : clock_at c.add.new.self c.args.i ≡ old.thread.clock + answer_cost c.args.outing.keeps_table =
    ap (λ (cs : List ThreadClock). clock_at cs c.args.i) clocks
    ∙ ap (λ (x : ThreadClock). x.clock) (get_or-set_same c.args.clocks.now c.args.i _ no_thread c.requires.inside)
    ∙ ap (λ n. old.thread.clock + n) c.answer_cost.ensures in
    let end = c.end_turn-end.result in
    let behind : c.phase_behind.result ≡ phase_behind end = c.phase_behind.ensures.phase in
    let row : c.answer.new.self ≡ record c.in-Some.row.now { answer = Some (told_as end) } =
    c.answer.ensures ∙ ap (λ a. record c.in-Some.row.now { answer = Some a }) c.answer_copied.ensures in
    let object : c.free.new.self ≡ freed old.thread.clock = c.free.ensures ∙ ap freed c.clock-now.ensures.value in
    let lock : c.free_table.new.table ≡ table_freed c.args.outing.keeps_table (old.thread.clock + 1)
    c.args.shared.now.lock = c.free_table.ensures
    ∙ ap (λ n. table_freed c.args.outing.keeps_table (n + 1) c.args.shared.now.lock) c.clock-now.ensures.value
    in
    let outcome = c.in-Some-outcome.outcome.now in
    let patience = c.args.patience in
    let outing = c.args.outing in
    let store = c.args.shared.now.store.value in
    let ends = subst (λ (h : Stored).
    EndsTurn outing.keeps_table patience outing c.call.result.now outcome end h c.end_turn-end.new.store)
    c.deref_mut.ensures.value c.end_turn-end.ensures.event in
    concludes_made patience c.args.i outing (Some c.told_as.result) old _ c.in-Some.row.now outcome
    end held there came room (ap Some c.told_as.ensures)
    (subst (λ (k : Call).
    EndsTurn outing.keeps_table patience outing k outcome end store c.end_turn-end.new.store)
    c.call.ensures ends)
    (λ k. record {
      thread = record (timed c.args.thread.now (at k)) { phase = behind k };
      object = object k;
      lock = lock k;
      table = c.end_turn-end.new.store;
      rows = set rows.items c.args.outing.row (row k);
    })

pub end_turn-end-requires-clause-born : goal.end_turn-end-requires-clause-born
end_turn-end-requires-clause-born c =
    subst (BornWithin (2 ^ 126)) (sym c.deref_mut.ensures.value)
    (few_born c.args.clocks.now c.args.shared.now.store.value c.requires.few c.clock-now.ensures.all_within_limit
    c.requires.born)

pub end_turn-end-requires-clause-decided : goal.end_turn-end-requires-clause-decided
end_turn-end-requires-clause-decided c keeps =
    let outing = c.args.outing in
    let shared = c.args.shared.now in
    let rows = shared.rows in
    let size : rows.len ≡ length rows.items = search rules in
    let there : slice_get rows.items outing.row ≡ Some c.in-Some.row.now =
    slice_get_read rows.items rows.len outing.row c.in-Some.row.now size (c.in-Some.ensures.variant.0 refl)
    c.in-Some.ensures.value in
    let held : shared.lock.holder ≡ Some c.args.i = search rules in
    let call : call_at rows.items outing.row ≡ Some c.in-Some.row.now.call =
    ap (option_map (λ (r : HistoryRow). r.call)) there in
    let its : wanted_call c.args.thread.now.phase rows.items ≡ Some (c.in-Some.row.now.call, outing.carried.moved) =
    ap (λ (p : Phase). wanted_call p rows.items) c.requires.recorded
    ∙ ap (λ (b : Bool). kept_call b (call_at rows.items outing.row) outing.carried.moved) keeps
    ∙ ap (λ (o : Option Call). kept_call true o outing.carried.moved) call in
    subst (λ (h : Stored). IsWanted h (c.call.result.now, outing.carried.moved) shared.wanted)
    (sym c.deref_mut.ensures.value)
    (c.requires.decided held (c.call.result.now, outing.carried.moved)
    (its ∙ ap (λ (k : Call). Some (k, outing.carried.moved)) (sym c.call.ensures)))

pub returns-clause-others : goal.returns-clause-others
returns-clause-others c = record { others = search rules; forward = search rules; live = search rules }

pub returns-clause-wanted : goal.returns-clause-wanted
returns-clause-wanted c = by_keep c.args.outing.keeps_table refl
  where
    old : Shared
    old = c.args.shared.now

    there : slice_get old.rows.items c.args.outing.row ≡ Some c.in-Some.row.now
    there =
        let size : old.rows.len ≡ length old.rows.items = search rules in
        slice_get_read old.rows.items old.rows.len c.args.outing.row c.in-Some.row.now size
        (c.in-Some.ensures.variant.0 refl) c.in-Some.ensures.value

    rows : List HistoryRow
    rows = set old.rows.items c.args.outing.row c.answer.new.self

    calls : KeepsCalls old.rows.items rows
    calls =
        calls_set old.rows.items c.args.outing.row c.in-Some.row.now c.answer.new.self there
        (ap (λ (r : HistoryRow). r.call) c.answer.ensures)

    by_keep : (b : Bool) → c.args.outing.keeps_table ≡ b → (k : ℕ)
        → c.free_table.new.table.holder ≡ Some k
        → LeavesWanted k old.lock old.rows.items old.store.value old.wanted rows c.end_turn-end.new.store
        old.wanted
    by_keep true is k held =
        let free : c.free_table.new.table.holder ≡ None =
        ap (λ (l : DetLock). l.holder) (c.free_table.ensures
        ∙ ap (λ (b : Bool). table_freed b (c.clock-now.result + 1) old.lock) is) in
        absurd (none-some k (sym free ∙ held))
    by_keep false is k held =
        let same : c.free_table.new.table ≡ old.lock = c.free_table.ensures
        ∙ ap (λ (b : Bool). table_freed b (c.clock-now.result + 1) old.lock) is in (
          ap (λ (l : DetLock). l.holder) (sym same) ∙ held,
          calls,
          c.end_turn-end.ensures.kept is ∙ c.deref_mut.ensures.value,
          refl,
        )
