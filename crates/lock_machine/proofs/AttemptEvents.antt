-- Attempts of a run, by what they make of one thread.
use Rattle.std.proofs.Common.{◌≡◌, ℕ, ◌<◌, ◌≤◌, List, length, set, get_or, Bool, true, false, refl, sym, ap, ◌∙◌, subst}
use Rattle.std.proofs.Common.{arith}
use Rattle.std.proofs.lemmas.Result.{IfOk-weaker}
use Rattle.std.specs.Prelude.{IfOk, Result}
use Rattle.std.specs.declared.alloc.AllocError.{AllocError}
use Rattle.posix_terms.specs.Calls.{Call}
use Rattle.posix_terms.specs.declared.limits.TheConstants.Limits as limit
use Rattle.posix_terms.specs.declared.transcript.HistoryRow.{HistoryRow}
use Rattle.det_mutex.specs.Attempt.{new_lock}
use Rattle.det_mutex.specs.declared.lock.DetLock.{DetLock}
use Rattle.logical_clocks.specs.ThreadClocks.{clock_at, live_clocks}
use Rattle.logical_clocks.specs.TurnOrder.{has_turn}
use Rattle.logical_clocks.specs.declared.clocks.ThreadClock.{ThreadClock}
use Rattle.lock_model.specs.Laws.{PlansOfArisen}
use Rattle.lock_model.specs.Machine.{wants}
use Rattle.sequential_object.specs.Locked.{KeepsOutside, OutsideLocks}
use Rattle.sequential_object.specs.Numbers.{first_world}
use Rattle.sequential_object.specs.Step.{Carried}
use Rattle.lock_model.specs.State as lock
use Rattle.lock_model.specs.State.{Row, thread_of}
use Rattle.call_turns.specs.Store.{LocksAsStep, Stored}
use Rattle.lock_machine.specs.Events.{Parts, Reaches, Tries, parts}
use Rattle.lock_machine.specs.Lives.{Agree}
use Rattle.lock_machine.specs.Conditions.{Conditions, setup_under}
use Rattle.lock_machine.specs.Shows.{Attempts, PhaseShows, WantsIn}
use Rattle.lock_machine.specs.Whole.{Whole, thread_at}
use Rattle.lock_machine.specs.Threads.{Thread, joined, timed}
use Rattle.lock_machine.specs.Views.{clocks_of, item_at}
use Rattle.lock_machine.specs.declared.thread.Phase.{Phase}
use Rattle.lock_machine.specs.declared.thread.Phase.TheVariants as phase
use Rattle.lock_machine.specs.declared.thread.Thread as declared
use Rattle.lock_machine.proofs.AttemptShows.{attempt_idle, attempt_whole, table_parts, table_tried}
use Rattle.lock_machine.proofs.EventShows.{Item, item_phase, item_thread, joined_inside, run_at, turn_shown}
use Rattle.lock_machine.proofs.Joining.{joined-kept}
use Rattle.lock_machine.proofs.ReachShows.{lock_at, object_tried, reach_whole}
use Rattle.lock_machine.proofs.Turning.{clocks_shown}

-- ## On the threads with their clocks

table_event : OutsideLocks → LocksAsStep
    → (w : Whole) (i : ℕ) (call : Call) (carried : Carried) (made : Bool) (new : Parts) → i < length w.threads
    → has_turn (clocks_of w.threads) i ≡ true → (thread_at w i).phase ≡ phase.WantsTable call carried
    → Tries w.settings.patience made i (table_parts w i) new → Attempts made i w (table_tried w i new)
table_event outside numbers w i call carried made new inside turn is tries terms s (arises, h) =
    let a = attempt_whole outside numbers terms w s i call carried made new inside h
    (ap (λ cs. has_turn cs i) (clocks_shown terms w s h) ∙ turn) is tries in (a.0, a.1)

object_event : KeepsOutside → PlansOfArisen
    → (w : Whole) (i n clock : ℕ) (call : Call) (carried : Carried) (made : Bool) (now : DetLock) (new : Parts)
    → i < length w.threads → has_turn (clocks_of w.threads) i ≡ true
    → (thread_at w i).phase ≡ phase.WantsObject call carried clock n
    → Reaches w.settings.patience made i (lock_at w n) now (table_parts w i) new
    → Attempts made i w (object_tried w i n now new)
object_event outside law w i n clock call carried made now new inside turn is tries terms s (arises, h) =
    let plans = law (setup_under terms) terms.threads limit.OBJECTS first_world s arises in
    let a = reach_whole outside terms w s i n clock call carried made now new inside h plans
    (ap (λ cs. has_turn cs i) (clocks_shown terms w s h) ∙ turn) is tries in (a.0, a.1)

-- a call whose object is past the last number is in no run
object_past : (w : Whole) (i n clock : ℕ) (call : Call) (carried : Carried)
    → (thread_at w i).phase ≡ phase.WantsObject call carried clock n → length w.objects ≤ n → Attempts false i w w
object_past w i n clock call carried is past terms s (arises, h) =
    let P : Phase → Type 0 = λ p. PhaseShows terms i s.rows (thread_at w i) (thread_of s i) p in
    let g = subst P is (h.threads i).phase in
    absurd (too_far n (length w.objects) g.1.1 h.object_count past)
  where
    too_far : (n m : ℕ) → n < limit.OBJECTS → m ≡ limit.OBJECTS → m ≤ n → ⊥
    too_far n m few e past = omega arith

-- threads in other phases want no lock
abbrev pub Idles : Phase → Type 0
Idles phase.Working = Unit {0}
Idles (phase.WantsTable call carried) = ⊥
Idles (phase.WantsObject call carried clock object) = ⊥
Idles (phase.Granted place object e) = Unit {0}
Idles (phase.ToOutside o) = Unit {0}
Idles (phase.Outside o) = Unit {0}
Idles (phase.Recorded o) = Unit {0}
Idles (phase.Blocked carried) = Unit {0}
Idles phase.Ended = Unit {0}

idles_wants : (terms : Conditions) (i : ℕ) (rows : List Row) (t : Thread) (u : lock.Thread) (p : Phase) → Idles p
    → PhaseShows terms i rows t u p → wants u.phase ≡ false
idles_wants terms i rows t u phase.Working idles h = ap wants h
idles_wants terms i rows t u (phase.WantsTable call carried) idles h = absurd idles
idles_wants terms i rows t u (phase.WantsObject call carried clock object) idles h = absurd idles
idles_wants terms i rows t u (phase.Granted place object e) idles h = ap wants h.1.0
idles_wants terms i rows t u (phase.ToOutside o) idles h = ap wants h.1.0
idles_wants terms i rows t u (phase.Outside o) idles h = ap wants h.1.0
idles_wants terms i rows t u (phase.Recorded o) idles h = ap wants h.1.0
idles_wants terms i rows t u (phase.Blocked carried) idles h = ap wants h.1
idles_wants terms i rows t u phase.Ended idles h = ap wants h

pub idle_event : (w : Whole) (i : ℕ) → Idles (thread_at w i).phase → Attempts false i w w
idle_event w i idles terms s (arises, h) =
    let a = attempt_idle terms w s i h
    (idles_wants terms i s.rows (thread_at w i) (thread_of s i) (thread_at w i).phase idles (h.threads i).phase)
    in (a.0, a.1)

-- ## By the item and the clock that the code changes

pub try_done : OutsideLocks → LocksAsStep
    → (w : Whole) (ts : List declared.Thread) (cs ds : List ThreadClock) (i : ℕ) (call : Call) (carried : Carried)
    (x v : declared.Thread) (l : DetLock) (later : Stored) (rows : List HistoryRow) (r : Result Bool AllocError)
    → Item ts cs i x v ds → Agree ts cs → has_turn (live_clocks cs) i ≡ true → x.phase ≡ phase.WantsTable call carried
    → IfOk r (λ made. Tries w.settings.patience made i (parts (timed x (clock_at cs i)) w.lock w.table w.rows)
    (parts (timed v (clock_at ds i)) l later rows))
    → IfOk r (λ made. Attempts made i (run_at w ts cs)
    (record w { threads = joined (set ts i v) ds; lock = l; table = later; rows = rows }))
try_done outside numbers w ts cs ds i call carried x v l later rows r h agree turn is tried =
    let z = run_at w ts cs in
    let new = parts (timed v (clock_at ds i)) l later rows in
    let P : Bool → Type 0 = λ made. Tries w.settings.patience made i
    (parts (timed x (clock_at cs i)) w.lock w.table w.rows) new in
    let Q : Bool → Type 0 = λ made. Attempts made i z
    (record w { threads = joined (set ts i v) ds; lock = l; table = later; rows = rows }) in
    IfOk-weaker r P Q (λ made a.
    let R : Thread → Type 0 = λ t. Tries w.settings.patience made i (parts t w.lock w.table w.rows) new in
    let T : List Thread → Type 0 =
    λ us. Attempts made i z (record w { threads = us; lock = l; table = later; rows = rows }) in
    subst T (sym (joined-kept ts cs ds i x v h.clocked h.kept))
    (table_event outside numbers z i call carried made new (joined_inside ts cs i h.inside)
    (turn_shown ts cs i true agree turn) (item_phase ts cs i x (phase.WantsTable call carried) h.inside h.item is)
    (subst R (sym (item_thread ts cs i x h.inside h.item)) a))) tried

abbrev WantsPhase : Phase → ℕ → Type 0
WantsPhase p n = (call : Call) × (carried : Carried) × (clock : ℕ) × (p ≡ phase.WantsObject call carried clock n)

wants_phase : (p : Phase) (n : ℕ) → WantsIn p n → WantsPhase p n
wants_phase phase.Working n h = absurd h
wants_phase (phase.WantsTable call carried) n h = absurd h
wants_phase (phase.WantsObject call carried clock object) n h =
    (call, carried, clock, ap (phase.WantsObject call carried clock) h)
wants_phase (phase.Granted place object e) n h = absurd h
wants_phase (phase.ToOutside o) n h = absurd h
wants_phase (phase.Outside o) n h = absurd h
wants_phase (phase.Recorded o) n h = absurd h
wants_phase (phase.Blocked carried) n h = absurd h
wants_phase phase.Ended n h = absurd h

pub reach_done : KeepsOutside → PlansOfArisen
    → (w : Whole) (ts : List declared.Thread) (cs ds : List ThreadClock) (i n : ℕ) (x v : declared.Thread)
    (l before own : DetLock) (later : Stored) (rows : List HistoryRow) (r : Result Bool AllocError)
    → Item ts cs i x v ds → Agree ts cs → has_turn (live_clocks cs) i ≡ true → WantsIn x.phase n
    → before ≡ get_or w.objects n new_lock
    → IfOk r (λ made. Reaches w.settings.patience made i before own
    (parts (timed x (clock_at cs i)) w.lock w.table w.rows) (parts (timed v (clock_at ds i)) l later rows))
    → IfOk r (λ made. Attempts made i (run_at w ts cs)
    (record w {
      threads = joined (set ts i v) ds;
      lock = l;
      objects = set w.objects n own;
      table = later;
      rows = rows;
    }))
reach_done outside plans w ts cs ds i n x v l before own later rows r h agree turn wanting before_is tried =
    let z = run_at w ts cs in
    let new = parts (timed v (clock_at ds i)) l later rows in
    let found = wants_phase x.phase n wanting in
    let P : Bool → Type 0 = λ made. Reaches w.settings.patience made i before own
    (parts (timed x (clock_at cs i)) w.lock w.table w.rows) new in
    let Q : Bool → Type 0 = λ made. Attempts made i z
    (record w {
      threads = joined (set ts i v) ds;
      lock = l;
      objects = set w.objects n own;
      table = later;
      rows = rows;
    }) in
    IfOk-weaker r P Q (λ made a.
    let R : Thread → Type 0 = λ t. Reaches w.settings.patience made i (get_or w.objects n new_lock) own
    (parts t w.lock w.table w.rows) new in
    let K : DetLock → Type 0 = λ k. Reaches w.settings.patience made i k own
    (parts (timed x (clock_at cs i)) w.lock w.table w.rows) new in
    let T : List Thread → Type 0 =
    λ us. Attempts made i z (record w {
      threads = us;
      lock = l;
      objects = set w.objects n own;
      table = later;
      rows = rows;
    }) in
    subst T (sym (joined-kept ts cs ds i x v h.clocked h.kept))
    (object_event outside plans z i n found.2 found.0 found.1 made own new (joined_inside ts cs i h.inside)
    (turn_shown ts cs i true agree turn)
    (item_phase ts cs i x (phase.WantsObject found.0 found.1 found.2 n) h.inside h.item found.3)
    (subst R (sym (item_thread ts cs i x h.inside h.item)) (subst K before_is a)))) tried

-- ## Where nothing is done

pub reach_none : (w : Whole) (ts : List declared.Thread) (cs : List ThreadClock) (i n : ℕ) → i < length ts
    → (let t : declared.Thread = item_at ts i in WantsIn t.phase n) → length w.objects ≤ n
    → Attempts false i (run_at w ts cs) (run_at w ts cs)
reach_none w ts cs i n inside wanting past =
    let x = item_at ts i in
    let found = wants_phase x.phase n wanting in
    object_past (run_at w ts cs) i n found.2 found.0 found.1
    (item_phase ts cs i x (phase.WantsObject found.0 found.1 found.2 n) inside refl found.3) past
