use Rattle.lock_machine.specs.Threads.{joined, timed}
use Rattle.std.proofs.lemmas.List.{length-set}
use Rattle.std.proofs.Common.{ℕ, ◌<◌, List, length, rules, set, sym, ◌≡◌, true, IfOk, OnErr, subst, refl}
use Rattle.posix_terms.specs.declared.transcript.HistoryRow.{HistoryRow}
use Rattle.logical_clocks.specs.ThreadClocks.{clock_at}
use Rattle.std.proofs.lemmas.Result.{on_err_weaker}
use Rattle.lock_machine.proofs.AskShows.{call_time, may_ask, on_err}
use Rattle.lock_machine.proofs.Inside.{clock_inside, count_kept, inside_of, item_in, lives_in, thread_seen, whole_by}
use Rattle.lock_machine.specs.Asking.{HasTime}
use Rattle.lock_machine.specs.Whole.{Whole, thread_at}
use Rattle.lock_machine.specs.Refusals.{Rests}
use Rattle.lock_machine.specs.Shows.{AsksFor}
use Rattle.lock_machine.specs.declared.thread.Phase.TheVariants as phase
use Rattle.lock_machine.proofs.EventShows.{ask_done, item_agrees, item_of, phase_at}
use Rattle.lock_machine.proofs.Resting.{ask_errs, ask_rests}
use Rattle.lock_machine.proofs.Bearing.{born_still}
use Rattle.lock_machine.specs.Waiting.{HasRoom, is_call}
use Rattle.lock_machine.proofs.RowRoom.{room_asked}
use Rattle.lock_machine.proofs.Bearing.{few_kept}
use Rattle.lock_machine.proofs.Wanting.{calls_same, waits_still}
use Rattle.lock_machine.specs.Wanted.{BringsNoCall, KeepsCalls}
use Rattle.posix_terms.specs.declared.transcript.HistoryRow.{HistoryRow}
use Rattle.lock_machine.proofs.machine.LockMachine.ask_working.Goals as goal

pub invariant_of-self-inside-2 : goal.invariant_of-self-inside-2
invariant_of-self-inside-2 c =
    let m = c.self.inside in
    let v : Whole = whole_by m.settings m.threads.items m.clocks m.shared.lock m.objects.items m.shared.store.value
    m.shared.rows.items in
    let view : v ≡ c.args.self.now = c.self.view_is in
    let inside = inside_of m.threads.items m.clocks v c.args.self.now c.args.i refl view c.requires.inside in
    let item = item_of m.threads.items m.clocks c.args.i c.index_mut.result.now c.ask.new.self c.ask.new.clocks m.agree
    inside c.index_mut.ensures.value c.ask.ensures.others in
    let same_rows : c.reserve_rows.new.rows.items ≡ m.shared.rows.items = c.reserve_rows.ensures.items in
    let size : c.len.result ≡ length m.threads.items = search rules in
    let taken : is_call c.args.step ≡ true
    → HasRoom (length m.threads.items) c.reserve_rows.new.rows =
    λ h. subst (λ (n : ℕ). HasRoom n c.reserve_rows.new.rows) size (c.in_ok-reserve_rows.ensures.room h) in (
      item_agrees m.threads.items m.clocks c.args.i c.index_mut.result.now c.ask.new.self c.ask.new.clocks m.agree item,
      (
        few_kept m.threads.items c.args.i c.ask.new.self m.few,
        (
          born_still m.clocks c.ask.new.clocks c.args.i c.index_mut.result.now c.ask.new.self m.shared.store.value
              (clock_inside m.threads.items m.clocks c.args.i m.agree inside) c.ask.ensures.others m.births,
          (
            room_asked (is_call c.args.step) m.threads.items c.args.i c.index_mut.result.now c.ask.new.self
                m.shared.rows c.reserve_rows.new.rows inside c.index_mut.ensures.value taken c.ask.ensures.due
                c.reserve_rows.ensures.kept m.room,
            (
              waits_still m.threads.items c.args.i c.index_mut.result.now c.ask.new.self m.shared.lock m.shared.lock
                  m.shared.rows.items c.reserve_rows.new.rows.items m.shared.store.value m.shared.wanted inside
                  c.index_mut.ensures.value (subst
                  (λ (l : List HistoryRow). BringsNoCall c.index_mut.result.now.phase m.shared.rows.items
                  c.ask.new.self.phase l) (sym same_rows) (c.ask.ensures.brings m.shared.rows.items))
                  (subst (KeepsCalls m.shared.rows.items) (sym same_rows) (calls_same m.shared.rows.items))
                  (λ k held. held) m.wanted,
              tt,
            ),
          ),
        ),
      ),
    )

pub returns-clause-event : goal.returns-clause-event
returns-clause-event c =
    let m = c.self.inside in
    let v : Whole = whole_by m.settings m.threads.items m.clocks m.shared.lock m.objects.items m.shared.store.value
    m.shared.rows.items in
    let view : v ≡ c.args.self.now = c.self.view_is in
    let inside = inside_of m.threads.items m.clocks v c.args.self.now c.args.i refl view c.requires.inside in
    let x = c.index_mut.result.now in
    let item = item_of m.threads.items m.clocks c.args.i x c.ask.new.self c.ask.new.clocks m.agree inside
    c.index_mut.ensures.value c.ask.ensures.others in
    let kept : c.reserve_rows.new.rows.items ≡ m.shared.rows.items = c.reserve_rows.ensures.items in
    subst (λ (rows : List HistoryRow). IfOk c.ask.result
    (λ moved. AsksFor moved c.args.i c.args.step c.args.self.now
    (record v { threads = joined (set m.threads.items c.args.i c.ask.new.self) c.ask.new.clocks; rows = rows })))
    (sym kept)
    (subst (λ (w : Whole). IfOk c.ask.result
    (λ moved. AsksFor moved c.args.i c.args.step w
    (record v { threads = joined (set m.threads.items c.args.i c.ask.new.self) c.ask.new.clocks }))) view
    (ask_done v m.threads.items m.clocks c.ask.new.clocks c.args.i c.args.step x c.ask.new.self c.ask.result
    c.arising_states.ensures.steps item
    (phase_at m.threads.items c.args.i x phase.Working inside c.index_mut.ensures.value
    (item_in (λ p. p ≡ phase.Working) m.threads.items m.clocks v c.args.self.now c.args.i refl view inside
    c.requires.working)) c.ask.ensures.event))

pub index_mut-requires : goal.index_mut-requires
index_mut-requires c =
    let m = c.self.inside in
    let v : Whole = whole_by m.settings m.threads.items m.clocks m.shared.lock m.objects.items m.shared.store.value
    m.shared.rows.items in
    let inside = inside_of m.threads.items m.clocks v c.args.self.now c.args.i refl c.self.view_is c.requires.inside in
    let size : m.threads.len ≡ length m.threads.items = search rules in
    subst (λ (n : ℕ). c.args.i < n) (sym size) inside

pub ask-requires-clause-inside : goal.ask-requires-clause-inside
ask-requires-clause-inside c =
    let m = c.self.inside in
    let v : Whole = whole_by m.settings m.threads.items m.clocks m.shared.lock m.objects.items m.shared.store.value
    m.shared.rows.items in
    let inside = inside_of m.threads.items m.clocks v c.args.self.now c.args.i refl c.self.view_is c.requires.inside in
    clock_inside m.threads.items m.clocks c.args.i m.agree inside

pub ask-requires-clause-live : goal.ask-requires-clause-live
ask-requires-clause-live c =
    let m = c.self.inside in
    let v : Whole = whole_by m.settings m.threads.items m.clocks m.shared.lock m.objects.items m.shared.store.value
    m.shared.rows.items in
    let view : v ≡ c.args.self.now = c.self.view_is in
    let inside = inside_of m.threads.items m.clocks v c.args.self.now c.args.i refl view c.requires.inside in
    lives_in m.threads.items c.args.i c.index_mut.result.now phase.Working inside c.index_mut.ensures.value
    (item_in (λ p. p ≡ phase.Working) m.threads.items m.clocks v c.args.self.now c.args.i refl view inside
    c.requires.working) refl

pub returns-clause-count : goal.returns-clause-count
returns-clause-count c =
    let m = c.self.inside in
    let v : Whole = whole_by m.settings m.threads.items m.clocks m.shared.lock m.objects.items m.shared.store.value
    m.shared.rows.items in
    count_kept m.threads.items (set m.threads.items c.args.i c.ask.new.self) m.clocks c.ask.new.clocks v c.args.self.now
    refl c.self.view_is (length-set m.threads.items c.args.i c.ask.new.self)

pub returns-clause-rests : goal.returns-clause-rests
returns-clause-rests c =
    let m = c.self.inside in
    let v : Whole = whole_by m.settings m.threads.items m.clocks m.shared.lock m.objects.items m.shared.store.value
    m.shared.rows.items in
    let view : v ≡ c.args.self.now = c.self.view_is in
    let inside = inside_of m.threads.items m.clocks v c.args.self.now c.args.i refl view c.requires.inside in
    let x = c.index_mut.result.now in
    let item = item_of m.threads.items m.clocks c.args.i x c.ask.new.self c.ask.new.clocks m.agree inside
    c.index_mut.ensures.value c.ask.ensures.others in
    let kept : c.reserve_rows.new.rows.items ≡ m.shared.rows.items = c.reserve_rows.ensures.items in
    subst (λ (rows : List HistoryRow). IfOk c.ask.result
    (λ moved. Rests moved c.args.self.now
    (record v { threads = joined (set m.threads.items c.args.i c.ask.new.self) c.ask.new.clocks; rows = rows })))
    (sym kept)
    (subst (λ (w : Whole). IfOk c.ask.result
    (λ moved. Rests moved w (record
    v { threads = joined (set m.threads.items c.args.i c.ask.new.self) c.ask.new.clocks }))) view
    (ask_rests v m.threads.items m.clocks c.ask.new.clocks c.args.i c.args.step x c.ask.new.self c.ask.result item
    c.ask.ensures.event))

pub returns-clause-err : goal.returns-clause-err
returns-clause-err c =
    let m = c.self.inside in
    let v : Whole = whole_by m.settings m.threads.items m.clocks m.shared.lock m.objects.items m.shared.store.value
    m.shared.rows.items in
    let view : v ≡ c.args.self.now = c.self.view_is in
    let inside = inside_of m.threads.items m.clocks v c.args.self.now c.args.i refl view c.requires.inside in
    let x = c.index_mut.result.now in
    let item = item_of m.threads.items m.clocks c.args.i x c.ask.new.self c.ask.new.clocks m.agree inside
    c.index_mut.ensures.value c.ask.ensures.others in
    let kept : c.reserve_rows.new.rows.items ≡ m.shared.rows.items = c.reserve_rows.ensures.items in
    subst (λ (rows : List HistoryRow). OnErr c.ask.result
    (record v { threads = joined (set m.threads.items c.args.i c.ask.new.self) c.ask.new.clocks; rows = rows }
    ≡ c.args.self.now)) (sym kept)
    (subst (λ (w : Whole). OnErr c.ask.result
    (record v { threads = joined (set m.threads.items c.args.i c.ask.new.self) c.ask.new.clocks } ≡ w)) view
    (ask_errs v m.threads.items m.clocks c.ask.new.clocks c.args.i x c.ask.new.self c.ask.result item
    c.ask.ensures.err))

pub returns-clause-memory : goal.returns-clause-memory
returns-clause-memory c =
    let m = c.self.inside in
    let w = c.args.self.now in
    let i = c.args.i in
    let x = c.index_mut.result.now in
    let v : Whole = whole_by m.settings m.threads.items m.clocks m.shared.lock m.objects.items m.shared.store.value
    m.shared.rows.items in
    let inside = inside_of m.threads.items m.clocks v w i refl c.self.view_is c.requires.inside in
    let seen : thread_at w i ≡ timed x (clock_at m.clocks i) =
    thread_seen m.threads.items m.clocks v w i x refl c.self.view_is inside c.index_mut.ensures.value in
    on_err_weaker c.ask.result (λ (time : HasTime c.args.step (timed x (clock_at m.clocks i))). may_ask w i c.args.step
    c.requires.working (subst (HasTime c.args.step) (sym seen) time)) c.ask.ensures.time

pub returns-in_err-reserve_rows-clause-memory : goal.returns-in_err-reserve_rows-clause-memory
returns-in_err-reserve_rows-clause-memory c =
    let w = c.args.self.now in
    on_err c.from_residual.result (may_ask w c.args.i c.args.step c.requires.working
    (call_time c.args.step (thread_at w c.args.i) c.in_err-reserve_rows.ensures.call))
