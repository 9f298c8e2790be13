use Rattle.std.proofs.Common.{◌≡◌, ◌<◌, ◌≤◌, ◌∙◌, ℕ, Option, Some, None, List, length, sym, refl, ap, subst, arith}
use Rattle.std.specs.Prelude.{IfSome}
use Rattle.det_mutex.specs.declared.lock.DetLock.{DetLock}
use Rattle.logical_clocks.specs.ThreadClocks.{clock_at}
use Rattle.logical_clocks.specs.TurnOrder.{turn_holder}
use Rattle.logical_clocks.specs.declared.clocks.ThreadClock.{ThreadClock}
use Rattle.lock_model.specs.Skipping.{SkipLaw, first_from}
use Rattle.posix_terms.specs.declared.limits.TheConstants.Limits as limit
use Rattle.posix_terms.specs.declared.transcript.Turn.{Turn}
use Rattle.lock_machine.specs.Births.{time_of}
use Rattle.lock_machine.specs.Lives.{Agree}
use Rattle.lock_machine.specs.Skipping.{ArePassed, FailsUntil, IsDue, NeedNotFail, SkipsFailures, phase_of}
use Rattle.lock_machine.specs.Threads.{joined}
use Rattle.lock_machine.specs.Views.{clocks_of}
use Rattle.lock_machine.specs.Whole.{Whole}
use Rattle.lock_machine.specs.declared.thread.Thread.{Thread}
use Rattle.lock_machine.proofs.DueTurn.{has_it, need_not, none_below}
use Rattle.lock_machine.proofs.EventShows.{holder_inside, run_at}
use Rattle.lock_machine.proofs.Inside.{count_kept, length_seen, whole_by}
use Rattle.lock_machine.proofs.Joining.{agree_length, live-joined}
use Rattle.lock_machine.proofs.SkipShows.{agree_passed, born_passed, none_done, skip_done}
use Rattle.lock_machine.proofs.machine.LockMachine.skip_failures.Goals as goal

as_many : (ts xs : List Thread) (cs : List ThreadClock) → Agree ts cs → xs ≡ ts → length xs ≤ length cs
as_many ts xs cs agree same =
    let e : length xs ≡ length ts = ap length same in
    let a = agree_length ts cs agree in
    omega arith

abbrev AllFail : DetLock → List DetLock → Turn → List Thread → List ThreadClock → Type 0
AllFail table objects turn ts cs = (j : ℕ) → j < length ts
    → FailsUntil table objects turn j (clock_at cs j) (phase_of ts j)

-- as the slices have them
all_fail : (table : DetLock) (ls xs : List DetLock) (turn : Turn) (ts us : List Thread) (cs : List ThreadClock)
    → us ≡ ts → xs ≡ ls → AllFail table xs turn us cs → AllFail table ls turn ts cs
all_fail table ls xs turn ts us cs threads locks h = subst (λ (ys : List DetLock). AllFail table ys turn ts cs) locks
    (subst (λ (vs : List Thread). AllFail table xs turn vs cs) threads h)

is_due : (table : DetLock) (ls xs : List DetLock) (turn : Turn) (ts us : List Thread) (cs : List ThreadClock) → us ≡ ts
    → xs ≡ ls → IsDue table xs us cs turn → IsDue table ls ts cs turn
is_due table ls xs turn ts us cs threads locks h = subst (λ (ys : List DetLock). IsDue table ys ts cs turn) locks
    (subst (λ (vs : List Thread). IsDue table xs vs cs turn) threads h)

are_passed : (turn : Turn) (ts us : List Thread) (cs ds : List ThreadClock) → us ≡ ts → ArePassed turn us cs ds
    → ArePassed turn ts cs ds
are_passed turn ts us cs ds threads h = subst (λ (vs : List Thread). ArePassed turn vs cs ds) threads h

skips : SkipLaw → (v w : Whole) (turn : Turn) (ts : List Thread) (cs ds : List ThreadClock) → run_at v ts cs ≡ w
    → Agree ts cs → ((j : ℕ) → first_from turn j ≤ limit.CLOCK) → AllFail v.lock v.objects turn ts cs
    → ArePassed turn ts cs ds → SkipsFailures w (run_at v ts ds)
skips law v w turn ts cs ds view agree within fails passed = subst (λ (u : Whole). SkipsFailures u (run_at v ts ds))
    view (skip_done law v turn ts cs ds agree within fails passed)

inside_by : (ts : List Thread) (ds : List ThreadClock) (i : ℕ) → Agree ts ds
    → turn_holder (clocks_of (joined ts ds)) ≡ Some i → i < length ts
inside_by ts ds i agree h = holder_inside ts ds i agree (ap turn_holder (live-joined ts ds agree) ∙ h)

pub next_opening-turn-requires : goal.next_opening-turn-requires
next_opening-turn-requires c =
    as_many c.self.inside.threads.items c.as_slice.result.now c.self.inside.clocks c.self.inside.agree
    c.as_slice.ensures.value

pub pass-requires-clause-inside : goal.pass-requires-clause-inside
pass-requires-clause-inside c =
    as_many c.self.inside.threads.items c.as_slice-3.result.now c.self.inside.clocks c.self.inside.agree
    c.as_slice-3.ensures.value

pub invariant_of-self-inside : goal.invariant_of-self-inside
invariant_of-self-inside c =
    let m = c.self.inside in
    let turn = c.next_opening-turn.result in
    let passed = are_passed turn m.threads.items c.as_slice-3.result.now m.clocks c.pass.new.clocks
    c.as_slice-3.ensures.value c.pass.ensures in (
      agree_passed turn m.threads.items m.clocks c.pass.new.clocks m.agree passed,
      (
        m.few,
        (
          born_passed (time_of m.clocks) (time_of c.pass.new.clocks) m.shared.store.value passed.forward m.births,
          (m.room, (m.wanted, tt)),
        ),
      ),
    )

-- ## A thread alone

pub returns-then-len-lt2-clause-event : goal.returns-then-len-lt2-clause-event
returns-then-len-lt2-clause-event c = none_done c.args.self.now

-- ## A thread is due

pub returns-then-turn-lt-CLOCK-clause-event : goal.returns-then-turn-lt-CLOCK-clause-event
returns-then-turn-lt-CLOCK-clause-event c =
    let m = c.self.inside in
    let turn = c.next_opening-turn.result in
    let v : Whole = whole_by m.settings m.threads.items m.clocks m.shared.lock m.objects.items m.shared.store.value
    m.shared.rows.items in
    skips c.failing_attempts.ensures v c.args.self.now turn m.threads.items m.clocks c.pass.new.clocks c.self.view_is
    m.agree c.next_opening-turn.ensures.within
    (all_fail m.shared.lock m.objects.items c.as_slice-2.result.now turn m.threads.items c.as_slice.result.now m.clocks
    c.as_slice.ensures.value c.as_slice-2.ensures.value c.next_opening-turn.ensures.fails)
    (are_passed turn m.threads.items c.as_slice-3.result.now m.clocks c.pass.new.clocks c.as_slice-3.ensures.value
    c.pass.ensures)

pub returns-then-turn-lt-CLOCK-clause-holder : goal.returns-then-turn-lt-CLOCK-clause-holder
returns-then-turn-lt-CLOCK-clause-holder c =
    let m = c.self.inside in
    let turn = c.next_opening-turn.result in
    let fails = all_fail m.shared.lock m.objects.items c.as_slice-2.result.now turn m.threads.items
    c.as_slice.result.now m.clocks c.as_slice.ensures.value c.as_slice-2.ensures.value
    c.next_opening-turn.ensures.fails in
    let passed = are_passed turn m.threads.items c.as_slice-3.result.now m.clocks c.pass.new.clocks
    c.as_slice-3.ensures.value c.pass.ensures in
    let due = is_due m.shared.lock m.objects.items c.as_slice-2.result.now turn m.threads.items c.as_slice.result.now
    m.clocks c.as_slice.ensures.value c.as_slice-2.ensures.value
    (c.next_opening-turn.ensures.due c.if-turn-lt-CLOCK.true) in
    let clocks = clocks_of (joined m.threads.items c.pass.new.clocks) in
    sym ((c.turn_order.ensures.holder clocks turn.thread).1
    (has_it m.shared.lock m.objects.items turn m.threads.items m.clocks c.pass.new.clocks fails passed due))

pub returns-then-turn-lt-CLOCK-clause-inside : goal.returns-then-turn-lt-CLOCK-clause-inside
returns-then-turn-lt-CLOCK-clause-inside c =
    let m = c.self.inside in
    let turn = c.next_opening-turn.result in
    let v : Whole = whole_by m.settings m.threads.items c.pass.new.clocks m.shared.lock m.objects.items
    m.shared.store.value m.shared.rows.items in
    let due = is_due m.shared.lock m.objects.items c.as_slice-2.result.now turn m.threads.items c.as_slice.result.now
    m.clocks c.as_slice.ensures.value c.as_slice-2.ensures.value
    (c.next_opening-turn.ensures.due c.if-turn-lt-CLOCK.true) in
    subst (λ (n : ℕ). turn.thread < n) (length_seen m.threads.items c.pass.new.clocks v v refl refl) due.inside

pub returns-then-turn-lt-CLOCK-clause-next : goal.returns-then-turn-lt-CLOCK-clause-next
returns-then-turn-lt-CLOCK-clause-next c many =
    let m = c.self.inside in
    let turn = c.next_opening-turn.result in
    let v : Whole = whole_by m.settings m.threads.items m.clocks m.shared.lock m.objects.items m.shared.store.value
    m.shared.rows.items in
    need_not v turn m.threads.items m.clocks c.pass.new.clocks
    (are_passed turn m.threads.items c.as_slice-3.result.now m.clocks c.pass.new.clocks c.as_slice-3.ensures.value
    c.pass.ensures)
    (is_due m.shared.lock m.objects.items c.as_slice-2.result.now turn m.threads.items c.as_slice.result.now m.clocks
    c.as_slice.ensures.value c.as_slice-2.ensures.value (c.next_opening-turn.ensures.due c.if-turn-lt-CLOCK.true))

pub returns-then-turn-lt-CLOCK-clause-count : goal.returns-then-turn-lt-CLOCK-clause-count
returns-then-turn-lt-CLOCK-clause-count c =
    let m = c.self.inside in
    let v : Whole = whole_by m.settings m.threads.items m.clocks m.shared.lock m.objects.items m.shared.store.value
    m.shared.rows.items in
    count_kept m.threads.items m.threads.items m.clocks c.pass.new.clocks v c.args.self.now refl c.self.view_is refl

-- ## None is, below the limit

pub returns-clause-event : goal.returns-clause-event
returns-clause-event c =
    let m = c.self.inside in
    let turn = c.next_opening-turn.result in
    let v : Whole = whole_by m.settings m.threads.items m.clocks m.shared.lock m.objects.items m.shared.store.value
    m.shared.rows.items in
    skips c.failing_attempts.ensures v c.args.self.now turn m.threads.items m.clocks c.pass.new.clocks c.self.view_is
    m.agree c.next_opening-turn.ensures.within
    (all_fail m.shared.lock m.objects.items c.as_slice-2.result.now turn m.threads.items c.as_slice.result.now m.clocks
    c.as_slice.ensures.value c.as_slice-2.ensures.value c.next_opening-turn.ensures.fails)
    (are_passed turn m.threads.items c.as_slice-3.result.now m.clocks c.pass.new.clocks c.as_slice-3.ensures.value
    c.pass.ensures)

pub returns-clause-next : goal.returns-clause-next
returns-clause-next c many = by_holder c.turn_holder-2.result refl
  where
    by_holder : (o : Option ℕ) → c.turn_holder-2.result ≡ o
        → (let m = c.self.inside in IfSome o
        (NeedNotFail (whole_by m.settings m.threads.items c.pass.new.clocks m.shared.lock m.objects.items
        m.shared.store.value m.shared.rows.items)))
    by_holder None e = tt
    by_holder (Some i) e =
        let m = c.self.inside in
        let turn = c.next_opening-turn.result in
        let v : Whole = whole_by m.settings m.threads.items m.clocks m.shared.lock m.objects.items m.shared.store.value
        m.shared.rows.items in
        let fails = all_fail m.shared.lock m.objects.items c.as_slice-2.result.now turn m.threads.items
        c.as_slice.result.now m.clocks c.as_slice.ensures.value c.as_slice-2.ensures.value
        c.next_opening-turn.ensures.fails in
        let passed = are_passed turn m.threads.items c.as_slice-3.result.now m.clocks c.pass.new.clocks
        c.as_slice-3.ensures.value c.pass.ensures in
        let agree = agree_passed turn m.threads.items m.clocks c.pass.new.clocks m.agree passed in
        let clocks = clocks_of (joined m.threads.items c.pass.new.clocks) in
        let holder = sym c.turn_holder-2.ensures.holder ∙ e in
        none_below v turn m.threads.items m.clocks c.pass.new.clocks i fails passed c.if-turn-lt-CLOCK.false
        (inside_by m.threads.items c.pass.new.clocks i agree holder)
        ((c.turn_order.ensures.holder clocks i).0 holder)

pub returns-clause-count : goal.returns-clause-count
returns-clause-count c =
    let m = c.self.inside in
    let v : Whole = whole_by m.settings m.threads.items m.clocks m.shared.lock m.objects.items m.shared.store.value
    m.shared.rows.items in
    count_kept m.threads.items m.threads.items m.clocks c.pass.new.clocks v c.args.self.now refl c.self.view_is refl
