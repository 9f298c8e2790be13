-- The thread that is due has the turn, once the others have passed.
use Rattle.std.proofs.Common.{◌≡◌, ℕ, zero, suc, ◌<◌, ◌≤◌, ◌||◌, ◌==◌, List, length, get_or, max, Some, None, Bool}
use Rattle.std.proofs.Common.{true, false, sym, refl, ap, ◌∙◌, subst, arith}
use Rattle.std.proofs.lemmas.Bool.{and_from}
use Rattle.std.proofs.lemmas.List.{get_or-map, length-map}
use Rattle.det_mutex.specs.declared.lock.DetLock.{DetLock}
use Rattle.logical_clocks.specs.ThreadClocks.{clock_at, thread_at as clock_of}
use Rattle.logical_clocks.specs.TurnOrder.{all_below, has_turn, has_turn_at, is_before, yields, yields_at}
use Rattle.logical_clocks.specs.declared.clocks.ThreadClock.{ThreadClock}
use Rattle.lock_model.specs.Skipping.{first_from, turn_at}
use Rattle.posix_terms.specs.declared.limits.TheConstants.Limits as limit
use Rattle.posix_terms.specs.declared.transcript.Turn.{Turn}
use Rattle.lock_machine.specs.Skipping.{ArePassed, FailsUntil, IsDue, NeedNotFail, Opens, passed, phase_of}
use Rattle.lock_machine.specs.Threads.{Thread, joined}
use Rattle.lock_machine.specs.Views.{clocks_of, live_clock_of, live_in, no_thread}
use Rattle.lock_machine.specs.Whole.{Whole}
use Rattle.lock_machine.specs.declared.thread.Phase.{Phase}
use Rattle.lock_machine.specs.declared.thread.Phase.TheVariants as phase
use Rattle.lock_machine.specs.declared.thread.Thread as declared
use Rattle.lock_machine.proofs.EventShows.{run_at}
use Rattle.lock_machine.proofs.Joining.{get-joined, length-joined}

all_below_from : (n : ℕ) (p : ℕ → Bool) → ((j : ℕ) → j < n → p j ≡ true) → all_below n p ≡ true
all_below_from zero p h = refl
all_below_from (suc n) p h = and_from (p n) (all_below n p) (h n (omega arith))
    (all_below_from n p (λ j l. h j (omega arith)))

-- ## The others

after_it : (turn : Turn) (j clock : ℕ) → is_before (turn_at j clock) turn ≡ false
    → ((j == turn.thread) || is_before turn (turn_at j clock)) ≡ true
after_it turn j clock h = grind arith

has_passed : (turn : Turn) (j clock : ℕ) → is_before (turn_at j (max clock (first_from turn j))) turn ≡ false
has_passed turn j clock = grind arith

yields_in : (table : DetLock) (objects : List DetLock) (turn : Turn) (j : ℕ) (p : Phase) (c : ThreadClock)
    → FailsUntil table objects turn j c.clock p
    → yields_at turn j (live_in p (let d : ThreadClock = passed turn j p c in d.clock)) ≡ true
yields_in table objects turn j phase.Working c f = after_it turn j c.clock f
yields_in table objects turn j (phase.WantsTable call carried) c f = after_it turn j (max c.clock (first_from turn j))
    (has_passed turn j c.clock)
yields_in table objects turn j (phase.WantsObject call carried at n) c f =
    after_it turn j (max c.clock (first_from turn j)) (has_passed turn j c.clock)
yields_in table objects turn j (phase.Granted place object e) c f = after_it turn j c.clock f
yields_in table objects turn j (phase.ToOutside o) c f = after_it turn j c.clock f
yields_in table objects turn j (phase.Outside o) c f = after_it turn j c.clock f
yields_in table objects turn j (phase.Recorded o) c f = after_it turn j c.clock f
yields_in table objects turn j (phase.Blocked carried) c f = after_it turn j c.clock f
yields_in table objects turn j phase.Ended c f = refl

-- ## The thread itself

comes_to : (clock : ℕ) (turn : Turn) → clock ≤ turn.clock → max clock (first_from turn turn.thread) ≡ turn.clock
comes_to clock turn h = grind arith

due_in : (table : DetLock) (objects : List DetLock) (turn : Turn) (p : Phase) (c : ThreadClock)
    → Opens table objects c.clock turn.clock p
    → live_in p (let d : ThreadClock = passed turn turn.thread p c in d.clock) ≡ Some turn.clock
due_in table objects turn phase.Working c o = ap Some (sym o)
due_in table objects turn (phase.WantsTable call carried) c o = ap Some (comes_to c.clock turn o.0)
due_in table objects turn (phase.WantsObject call carried at n) c o = ap Some (comes_to c.clock turn o.0)
due_in table objects turn (phase.Granted place object e) c o = ap Some (sym o)
due_in table objects turn (phase.ToOutside x) c o = ap Some (sym o)
due_in table objects turn (phase.Outside x) c o = ap Some (sym o)
due_in table objects turn (phase.Recorded x) c o = ap Some (sym o)
due_in table objects turn (phase.Blocked carried) c o = ap Some (sym o)
due_in table objects turn phase.Ended c o = absurd o

opens_there : (table : DetLock) (objects : List DetLock) (clock opens : ℕ) (p : Phase)
    → Opens table objects clock opens p → Opens table objects opens opens p
opens_there table objects clock opens phase.Working o = refl
opens_there table objects clock opens (phase.WantsTable call carried) o = (omega arith, o.1)
opens_there table objects clock opens (phase.WantsObject call carried at n) o = (omega arith, o.1)
opens_there table objects clock opens (phase.Granted place object e) o = refl
opens_there table objects clock opens (phase.ToOutside x) o = refl
opens_there table objects clock opens (phase.Outside x) o = refl
opens_there table objects clock opens (phase.Recorded x) o = refl
opens_there table objects clock opens (phase.Blocked carried) o = refl
opens_there table objects clock opens phase.Ended o = absurd o

-- ## Together

-- the clock of a thread, if it is live
live_at : (turn : Turn) (ts : List declared.Thread) (cs ds : List ThreadClock) (j : ℕ) → ArePassed turn ts cs ds
    → j < length ts → get_or (clocks_of (joined ts ds)) j None
    ≡ live_in (phase_of ts j) (let d : ThreadClock = passed turn j (phase_of ts j) (clock_of cs j) in d.clock)
live_at turn ts cs ds j h inside =
    get_or-map live_clock_of (joined ts ds) j no_thread None
    (subst (λ (n : ℕ). j < n) (sym (length-joined ts ds)) inside)
    ∙ ap live_clock_of (get-joined ts ds j inside)
    ∙ ap (λ (d : ThreadClock). live_in (phase_of ts j) d.clock) (h.each j inside)

-- the thread of the turn has it
pub has_it : (table : DetLock) (objects : List DetLock) (turn : Turn) (ts : List declared.Thread)
    (cs ds : List ThreadClock) → ((j : ℕ) → j < length ts
    → FailsUntil table objects turn j (clock_at cs j) (phase_of ts j)) → ArePassed turn ts cs ds
    → IsDue table objects ts cs turn → has_turn (clocks_of (joined ts ds)) turn.thread ≡ true
unfolding has_turn yields
has_it table objects turn ts cs ds fails h due =
    let clocks = clocks_of (joined ts ds) in
    let own : get_or clocks turn.thread None ≡ Some turn.clock = live_at turn ts cs ds turn.thread h due.inside
    ∙ due_in table objects turn (phase_of ts turn.thread) (clock_of cs turn.thread) due.opens in
    let count : length clocks ≡ length ts = length-map (joined ts ds) live_clock_of ∙ length-joined ts ds in
    ap (has_turn_at clocks turn.thread) own
    ∙ all_below_from (length clocks) (yields clocks turn) (λ j l.
    let inside : j < length ts = subst (λ (n : ℕ). j < n) count l in
    ap (yields_at turn j) (live_at turn ts cs ds j h inside)
    ∙ yields_in table objects turn j (phase_of ts j) (clock_of cs j) (fails j inside))

clock_then : (turn : Turn) (ts : List declared.Thread) (cs ds : List ThreadClock) (j : ℕ) → ArePassed turn ts cs ds
    → j < length ts → clock_at ds j ≡ (let d : ThreadClock = passed turn j (phase_of ts j) (clock_of cs j) in d.clock)
clock_then turn ts cs ds j h inside = ap (λ (d : ThreadClock). d.clock) (h.each j inside)

-- and need not fail
pub need_not : (w : Whole) (turn : Turn) (ts : List declared.Thread) (cs ds : List ThreadClock)
    → ArePassed turn ts cs ds → IsDue w.lock w.objects ts cs turn → NeedNotFail (run_at w ts ds) turn.thread
need_not w turn ts cs ds h due =
    let i = turn.thread in
    let p = phase_of ts i in
    let N : Thread → Type 0 = λ t. t.clock < limit.CLOCK → Opens w.lock w.objects t.clock t.clock t.phase in
    let is : live_in p (clock_at ds i) ≡ Some turn.clock = ap (live_in p) (clock_then turn ts cs ds i h due.inside)
    ∙ due_in w.lock w.objects turn p (clock_of cs i) due.opens in
    let clock : clock_at ds i ≡ turn.clock = by_phase p (clock_at ds i) turn.clock is in
    subst N (sym (get-joined ts ds i due.inside))
    (λ low. subst (λ (c : ℕ). Opens w.lock w.objects c c p) (sym clock)
    (opens_there w.lock w.objects (clock_at cs i) turn.clock p due.opens))
  where
    same : (a b : ℕ) → Some a ≡ Some b → a ≡ b
    same a b e = cc

    by_phase : (p : Phase) (a b : ℕ) → live_in p a ≡ Some b → a ≡ b
    by_phase phase.Working a b e = same a b e
    by_phase (phase.WantsTable call carried) a b e = same a b e
    by_phase (phase.WantsObject call carried at n) a b e = same a b e
    by_phase (phase.Granted place object x) a b e = same a b e
    by_phase (phase.ToOutside x) a b e = same a b e
    by_phase (phase.Outside x) a b e = same a b e
    by_phase (phase.Recorded x) a b e = same a b e
    by_phase (phase.Blocked carried) a b e = same a b e
    by_phase phase.Ended a b e = cc

-- where nobody is due below the limit, whoever has the turn is there
pub none_below : (w : Whole) (turn : Turn) (ts : List declared.Thread) (cs ds : List ThreadClock) (i : ℕ)
    → ((j : ℕ) → j < length ts → FailsUntil w.lock w.objects turn j (clock_at cs j) (phase_of ts j))
    → ArePassed turn ts cs ds → limit.CLOCK ≤ turn.clock → i < length ts → has_turn (clocks_of (joined ts ds)) i ≡ true
    → NeedNotFail (run_at w ts ds) i
unfolding has_turn
none_below w turn ts cs ds i fails h full inside has =
    let p = phase_of ts i in
    let N : Thread → Type 0 = λ t. t.clock < limit.CLOCK → Opens w.lock w.objects t.clock t.clock t.phase in
    let clocks = clocks_of (joined ts ds) in
    let live : has_turn_at clocks i (live_in p (let d : ThreadClock = passed turn i p (clock_of cs i) in d.clock))
    ≡ true = ap (has_turn_at clocks i) (sym (live_at turn ts cs ds i h inside)) ∙ has in
    subst N (sym (get-joined ts ds i inside))
    (λ low. absurd (late p (clock_of cs i) (fails i inside) live
    (subst (λ (c : ℕ). c < limit.CLOCK) (clock_then turn ts cs ds i h inside) low)))
  where
    after : (turn : Turn) (j clock : ℕ) → is_before (turn_at j clock) turn ≡ false → limit.CLOCK ≤ turn.clock
        → clock < limit.CLOCK → ⊥
    after turn j clock h full low = grind arith

    late : (p : Phase) (c : ThreadClock) → FailsUntil w.lock w.objects turn i c.clock p
        → has_turn_at (clocks_of (joined ts ds)) i (live_in p (let d : ThreadClock = passed turn i p c in d.clock))
        ≡ true → (let d : ThreadClock = passed turn i p c in d.clock) < limit.CLOCK → ⊥
    late phase.Working c f live low = after turn i c.clock f full low
    late (phase.WantsTable call carried) c f live low =
        after turn i (max c.clock (first_from turn i)) (has_passed turn i c.clock) full low
    late (phase.WantsObject call carried at n) c f live low =
        after turn i (max c.clock (first_from turn i)) (has_passed turn i c.clock) full low
    late (phase.Granted place object x) c f live low = after turn i c.clock f full low
    late (phase.ToOutside x) c f live low = after turn i c.clock f full low
    late (phase.Outside x) c f live low = after turn i c.clock f full low
    late (phase.Recorded x) c f live low = after turn i c.clock f full low
    late (phase.Blocked carried) c f live low = after turn i c.clock f full low
    late phase.Ended c f live low = cc
