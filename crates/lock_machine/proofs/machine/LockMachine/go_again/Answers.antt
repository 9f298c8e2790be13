use Rattle.lock_machine.specs.Threads.{joined}
use Rattle.std.proofs.lemmas.List.{length-set}
use Rattle.std.proofs.Common.{subst, ◌≡◌, ◌∙◌, refl, ℕ, ◌<◌, List, length, rules, set, sym, IfOk, OnErr}
use Rattle.std.specs.Vec.{vec_len}
use Rattle.posix_terms.specs.declared.transcript.HistoryRow.{HistoryRow}
use Rattle.lock_machine.proofs.AskShows.{may_again, on_err}
use Rattle.lock_machine.proofs.Inside.{inside_of, item_in, whole_by, count_kept}
use Rattle.lock_machine.specs.Whole.{Whole}
use Rattle.lock_machine.specs.Refusals.{Rests}
use Rattle.lock_machine.specs.Shows.{AdvancesQuietly, BlockedIn}
use Rattle.lock_machine.proofs.EventShows.{again_done, blocked_at, item_agrees, item_still}
use Rattle.lock_machine.proofs.Resting.{again_errs, again_rests}
use Rattle.lock_machine.proofs.RowRoom.{room_for_all}
use Rattle.lock_machine.proofs.Bearing.{few_kept}
use Rattle.lock_machine.proofs.Wanting.{calls_same, waits_still}
use Rattle.lock_machine.specs.Wanted.{BringsNoCall, KeepsCalls}
use Rattle.posix_terms.specs.declared.transcript.HistoryRow.{HistoryRow}
use Rattle.lock_machine.proofs.machine.LockMachine.go_again.Goals as goal

pub invariant_of-self-inside-2 : goal.invariant_of-self-inside-2
invariant_of-self-inside-2 c =
    let m = c.self.inside in
    let v : Whole = whole_by m.settings m.threads.items m.clocks m.shared.lock m.objects.items m.shared.store.value
    m.shared.rows.items in
    let view : v ≡ c.args.self.now = c.self.view_is in
    let inside = inside_of m.threads.items m.clocks v c.args.self.now c.args.i refl view c.requires.inside in
    let item = item_still m.threads.items m.clocks c.args.i c.index_mut.result.now c.again.new.self m.agree inside
    c.index_mut.ensures.value c.again.ensures.live in
    let size : c.len.result ≡ length m.threads.items = search rules in
    let same_rows : c.reserve.new.self.items ≡ m.shared.rows.items = search rules in
    let same : vec_len c.reserve.new.self ≡ vec_len m.shared.rows = search rules in (
      item_agrees m.threads.items m.clocks c.args.i c.index_mut.result.now c.again.new.self m.clocks m.agree item,
      (
        few_kept m.threads.items c.args.i c.again.new.self m.few,
        (
          m.births,
          (
            room_for_all (set m.threads.items c.args.i c.again.new.self) c.len.result c.reserve.new.self
                (length-set m.threads.items c.args.i c.again.new.self ∙ sym size) (search rules),
            (
              waits_still m.threads.items c.args.i c.index_mut.result.now c.again.new.self m.shared.lock m.shared.lock
                  m.shared.rows.items c.reserve.new.self.items m.shared.store.value m.shared.wanted inside
                  c.index_mut.ensures.value (subst
                  (λ (l : List HistoryRow). BringsNoCall c.index_mut.result.now.phase m.shared.rows.items
                  c.again.new.self.phase l) (sym same_rows) (c.again.ensures.brings m.shared.rows.items))
                  (subst (KeepsCalls m.shared.rows.items) (sym same_rows) (calls_same m.shared.rows.items))
                  (λ k held. held) m.wanted,
              tt,
            ),
          ),
        ),
      ),
    )

pub returns-clause-event : goal.returns-clause-event
returns-clause-event c =
    let m = c.self.inside in
    let v : Whole = whole_by m.settings m.threads.items m.clocks m.shared.lock m.objects.items m.shared.store.value
    m.shared.rows.items in
    let view : v ≡ c.args.self.now = c.self.view_is in
    let inside = inside_of m.threads.items m.clocks v c.args.self.now c.args.i refl view c.requires.inside in
    let x = c.index_mut.result.now in
    let item = item_still m.threads.items m.clocks c.args.i x c.again.new.self m.agree inside c.index_mut.ensures.value
    c.again.ensures.live in
    let kept : c.reserve.new.self.items ≡ m.shared.rows.items = search rules in
    subst (λ (rows : List HistoryRow). IfOk c.again.result
    (λ moved. AdvancesQuietly moved c.args.i c.args.self.now
    (record v { threads = joined (set m.threads.items c.args.i c.again.new.self) m.clocks; rows = rows })))
    (sym kept)
    (subst (λ (w : Whole). IfOk c.again.result
    (λ moved. AdvancesQuietly moved c.args.i w
    (record v { threads = joined (set m.threads.items c.args.i c.again.new.self) m.clocks }))) view
    (again_done v m.threads.items m.clocks c.args.i x c.again.new.self c.again.result c.arising_states.ensures.steps
    item (blocked_at m.threads.items c.args.i x inside c.index_mut.ensures.value
    (item_in BlockedIn m.threads.items m.clocks v c.args.self.now c.args.i refl view inside c.requires.blocked))
    c.again.ensures.event))

pub index_mut-requires : goal.index_mut-requires
index_mut-requires c =
    let m = c.self.inside in
    let v : Whole = whole_by m.settings m.threads.items m.clocks m.shared.lock m.objects.items m.shared.store.value
    m.shared.rows.items in
    let view : v ≡ c.args.self.now = c.self.view_is in
    let inside = inside_of m.threads.items m.clocks v c.args.self.now c.args.i refl view c.requires.inside in
    let size : m.threads.len ≡ length m.threads.items = search rules in
    subst (λ (n : ℕ). c.args.i < n) (sym size) inside

pub returns-clause-count : goal.returns-clause-count
returns-clause-count c =
    let m = c.self.inside in
    let v : Whole = whole_by m.settings m.threads.items m.clocks m.shared.lock m.objects.items m.shared.store.value
    m.shared.rows.items in
    let view : v ≡ c.args.self.now = c.self.view_is in
    let inside = inside_of m.threads.items m.clocks v c.args.self.now c.args.i refl view c.requires.inside in
    count_kept m.threads.items (set m.threads.items c.args.i c.again.new.self) m.clocks m.clocks v c.args.self.now refl
    view (length-set m.threads.items c.args.i c.again.new.self)

pub returns-clause-rests : goal.returns-clause-rests
returns-clause-rests c =
    let m = c.self.inside in
    let v : Whole = whole_by m.settings m.threads.items m.clocks m.shared.lock m.objects.items m.shared.store.value
    m.shared.rows.items in
    let view : v ≡ c.args.self.now = c.self.view_is in
    let inside = inside_of m.threads.items m.clocks v c.args.self.now c.args.i refl view c.requires.inside in
    let x = c.index_mut.result.now in
    let item = item_still m.threads.items m.clocks c.args.i x c.again.new.self m.agree inside c.index_mut.ensures.value
    c.again.ensures.live in
    let kept : c.reserve.new.self.items ≡ m.shared.rows.items = search rules in
    subst (λ (rows : List HistoryRow). IfOk c.again.result
    (λ moved. Rests moved c.args.self.now
    (record v { threads = joined (set m.threads.items c.args.i c.again.new.self) m.clocks; rows = rows })))
    (sym kept)
    (subst (λ (w : Whole). IfOk c.again.result
    (λ moved. Rests moved w (record
    v { threads = joined (set m.threads.items c.args.i c.again.new.self) m.clocks }))) view
    (again_rests v m.threads.items m.clocks c.args.i x c.again.new.self c.again.result item c.again.ensures.event))

pub returns-clause-err : goal.returns-clause-err
returns-clause-err c =
    let m = c.self.inside in
    let v : Whole = whole_by m.settings m.threads.items m.clocks m.shared.lock m.objects.items m.shared.store.value
    m.shared.rows.items in
    let view : v ≡ c.args.self.now = c.self.view_is in
    let inside = inside_of m.threads.items m.clocks v c.args.self.now c.args.i refl view c.requires.inside in
    let x = c.index_mut.result.now in
    let item = item_still m.threads.items m.clocks c.args.i x c.again.new.self m.agree inside c.index_mut.ensures.value
    c.again.ensures.live in
    let kept : c.reserve.new.self.items ≡ m.shared.rows.items = search rules in
    subst (λ (rows : List HistoryRow). OnErr c.again.result
    (record v { threads = joined (set m.threads.items c.args.i c.again.new.self) m.clocks; rows = rows }
    ≡ c.args.self.now)) (sym kept)
    (subst (λ (w : Whole). OnErr c.again.result
    (record v { threads = joined (set m.threads.items c.args.i c.again.new.self) m.clocks } ≡ w)) view
    (again_errs v m.threads.items m.clocks c.args.i x c.again.new.self c.again.result item c.again.ensures.err))

pub returns-clause-memory : goal.returns-clause-memory
returns-clause-memory c = on_err c.again.result (may_again c.args.self.now c.args.i c.requires.blocked)

pub returns-in_err-reserve-clause-memory : goal.returns-in_err-reserve-clause-memory
returns-in_err-reserve-clause-memory c =
    on_err c.from_residual.result (may_again c.args.self.now c.args.i c.requires.blocked)
