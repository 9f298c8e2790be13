-- The events of a run, by what they make of one thread.
use Rattle.posix_terms.specs.declared.transcript.Settings.{Settings}
use Rattle.std.proofs.Common.{◌≡◌, ℕ, zero, suc, ◌<◌, ◌≤◌, List, length, set, get_or, Option, Some, None, Bool, true}
use Rattle.std.proofs.Common.{false, sym, refl, ap, ap₂, ◌∙◌, subst, arith}
use Rattle.std.proofs.lemmas.List.{length-map}
use Rattle.std.proofs.lemmas.Option.{none-some, same_Some}
use Rattle.std.proofs.lemmas.Result.{IfOk-weaker}
use Rattle.std.specs.Prelude.{IfOk, Result}
use Rattle.std.specs.declared.alloc.AllocError.{AllocError}
use Rattle.posix_terms.specs.Calls.{Call}
use Rattle.posix_terms.specs.declared.limits.TheConstants.Limits as limit
use Rattle.posix_terms.specs.declared.reply.Answer as posix
use Rattle.posix_terms.specs.declared.transcript.HistoryRow.{HistoryRow}
use Rattle.sequential_object.specs.declared.turn_end.TurnEnd.{TurnEnd}
use Rattle.det_mutex.specs.Attempt.{new_lock}
use Rattle.det_mutex.specs.declared.lock.DetLock.{DetLock}
use Rattle.logical_clocks.specs.ThreadClocks.{clock_at, live_clock, live_clocks}
use Rattle.logical_clocks.specs.TurnOrder.{first_below, first_or, has_turn, turn_holder}
use Rattle.logical_clocks.specs.declared.clocks.ThreadClock.{ThreadClock}
use Rattle.lock_model.specs.Laws.{LocksOfArisen, PlansOfArisen, RowsOfArisen, StepsOfArisen}
use Rattle.sequential_object.specs.Numbers.{first_world}
use Rattle.sequential_object.specs.Step.{Carried}
use Rattle.lock_model.specs.State.{thread_of}
use Rattle.posix_terms.specs.declared.step.Step.{Step}
use Rattle.posix_terms.specs.declared.step.Step.TheVariants as step
use Rattle.lock_machine.specs.Requests.{AskLittle}
use Rattle.lock_machine.specs.Asking.{Asks, GoesAgain, after_want}
use Rattle.lock_machine.specs.Events.{Answers, parts}
use Rattle.lock_machine.specs.Lives.{Agree, is_live}
use Rattle.lock_machine.specs.Outings.{AnswersOutside, Begins, OutsideParts, RecordedParts, Records, outside_parts}
use Rattle.lock_machine.specs.Outings.{recorded_parts}
use Rattle.lock_machine.specs.Conditions.{setup_under}
use Rattle.lock_machine.specs.declared.outside.Progress.{Progress}
use Rattle.lock_machine.specs.declared.thread.Outing.{Outing}
use Rattle.posix_terms.specs.declared.outcome.Given.{Given}
use Rattle.call_turns.specs.Store.{Stored}
use Rattle.lock_machine.specs.Shows.{AdvancesQuietly, AsksFor, BlockedIn, GrantedIn, PhaseShows, RecordsGiven, Tells}
use Rattle.lock_machine.specs.Shows.{WantsIn}
use Rattle.lock_machine.specs.Whole.{Whole, thread_at}
use Rattle.lock_machine.specs.Threads.{KeepsOthers, Thread, joined, timed}
use Rattle.lock_machine.specs.Views.{clocks_of, item_at, no_thread}
use Rattle.lock_machine.specs.declared.thread.Phase.{Phase}
use Rattle.lock_machine.specs.declared.thread.Phase.TheVariants as phase
use Rattle.lock_machine.specs.declared.thread.Thread as declared
use Rattle.lock_machine.proofs.AnswerShows.{answer_whole, lock_held, with_lock}
use Rattle.lock_machine.proofs.AskShows.{again_moves, ask_moves}
use Rattle.lock_machine.proofs.ClockLemmas.{kept_still}
use Rattle.lock_machine.proofs.OutsideShows.{begin_moves, conclude_whole, concluded_whole, outside_at, record_whole}
use Rattle.lock_machine.proofs.OutsideShows.{recorded_at, recorded_whole}
use Rattle.lock_machine.proofs.Inside.{item_is}
use Rattle.lock_machine.proofs.Joining.{agree-kept, agree_length, get-joined, joined-kept, length-joined, live-joined}
use Rattle.lock_machine.proofs.ShownThreads.{whole_quiet}

pub ask_event : (w : Whole) (i : ℕ) (moved : Bool) (x : Step) (v : Thread) → StepsOfArisen → i < length w.threads
    → (thread_at w i).phase ≡ phase.Working → Asks moved x (thread_at w i) v
    → AsksFor moved i x w (record w { threads = set w.threads i v })
ask_event w i moved x v law inside works asks terms s (arises, h) next =
    let asked = law (setup_under terms) terms.threads limit.OBJECTS first_world s arises i in
    let a = whole_quiet terms w s i moved v inside h
    (ask_moves terms i s.rows moved x (thread_at w i) v (thread_of s i) works (h.threads i) asked next asks) in
    record { can = a.0; shows = a.1 }

pub again_event : (w : Whole) (i : ℕ) (carried : Carried) (moved : Bool) (v : Thread) → StepsOfArisen
    → i < length w.threads → (thread_at w i).phase ≡ phase.Blocked carried → GoesAgain moved (thread_at w i) v
    → AdvancesQuietly moved i w (record w { threads = set w.threads i v })
again_event w i carried moved v law inside is goes terms s (arises, h) =
    let asked = law (setup_under terms) terms.threads limit.OBJECTS first_world s arises i in
    let a = whole_quiet terms w s i moved v inside h
    (again_moves terms i s.rows moved (thread_at w i) v (thread_of s i) carried is (h.threads i) asked goes) in
    record { can = a.0; shows = a.1 }

pub begin_event : (w : Whole) (i : ℕ) (o : Outing) (moved : Bool) (v : Thread) → i < length w.threads
    → (thread_at w i).phase ≡ phase.ToOutside o → Begins w.settings.door_cost o moved (thread_at w i) v
    → AdvancesQuietly moved i w (record w { threads = set w.threads i v })
begin_event w i o moved v inside is begins terms s (arises, h) =
    let R : ℕ → Type 0 = λ cost. Begins cost o moved (thread_at w i) v in
    let a = whole_quiet terms w s i moved v inside h
    (begin_moves terms i s.rows moved (thread_at w i) v (thread_of s i) o is (h.threads i)
    (subst R (sym (ap (λ (x : Settings). x.door_cost) h.settings)) begins)) in record { can = a.0; shows = a.1 }

pub record_event : AskLittle → RowsOfArisen → PlansOfArisen
    → (w : Whole) (i : ℕ) (o : Outing) (g : Given) (made : Progress) (new : RecordedParts) → i < length w.threads
    → (thread_at w i).phase ≡ phase.Outside o → Records made o g (recorded_at w i) new
    → RecordsGiven made i g w (recorded_whole w i new)
record_event law own plans w i o g made new inside is records terms s (arises, h) next =
    record_whole law terms w s i o g made new inside h
    (own (setup_under terms) terms.threads limit.OBJECTS first_world s arises)
    (plans (setup_under terms) terms.threads limit.OBJECTS first_world s arises) is next records

pub conclude_event : LocksOfArisen → RowsOfArisen → PlansOfArisen
    → (w : Whole) (i n : ℕ) (o : Outing) (told : Option posix.Answer) (new : OutsideParts) → i < length w.threads
    → (thread_at w i).phase ≡ phase.Recorded o → o.object ≡ Some n
    → AnswersOutside w.settings.patience told i o (outside_at w i n) new → Tells told i w (concluded_whole w i n new)
conclude_event held own plans w i n o told new inside is object_is answers terms s (arises, h) =
    let a =
    conclude_whole terms w s i n o told new inside h
    (held (setup_under terms) terms.threads limit.OBJECTS first_world s arises)
    (own (setup_under terms) terms.threads limit.OBJECTS first_world s arises)
    (plans (setup_under terms) terms.threads limit.OBJECTS first_world s arises) is object_is answers in
    (record { can = a.0; shows = a.1 }, a.2)

pub answer_event : LocksOfArisen → RowsOfArisen
    → (w : Whole) (i place : ℕ) (object : Option ℕ) (e : TurnEnd) (told : Option posix.Answer) (v : Thread)
    (l : DetLock) (rows : List HistoryRow) → i < length w.threads → (thread_at w i).phase ≡ phase.Granted place object e
    → Answers told i place (parts (thread_at w i) (lock_held w object) w.table w.rows) (parts v l w.table rows)
    → Tells told i w (with_lock w object l (set w.threads i v) rows)
answer_event held own w i place object e told v l rows inside is answers terms s (arises, h) =
    let a =
    answer_whole terms w s i place object e told v l rows inside h
    (held (setup_under terms) terms.threads limit.OBJECTS first_world s arises)
    (own (setup_under terms) terms.threads limit.OBJECTS first_world s arises) is answers in
    (record { can = a.0; shows = a.1 }, a.2)

-- a call whose object is past the last number is in no run
pub answer_past : (w : Whole) (i place n : ℕ) (e : TurnEnd) → (thread_at w i).phase ≡ phase.Granted place (Some n) e
    → length w.objects ≤ n → Tells None i w w
answer_past w i place n e is past terms s (arises, h) =
    let P : Phase → Type 0 = λ p. PhaseShows terms i s.rows (thread_at w i) (thread_of s i) p in
    let g = subst P is (h.threads i).phase in
    absurd (too_far n (length w.objects) g.1.1.in_range h.object_count past)
  where
    too_far : (n m : ℕ) → n < limit.OBJECTS → m ≡ limit.OBJECTS → m ≤ n → ⊥
    too_far n m few e past = omega arith

-- ## By the item and the clock that the code changes

-- threads with clocks, of which item x is that of thread i, and what the event leaves: item v and these clocks
pub record Item (ts : List declared.Thread) (cs : List ThreadClock) (i : ℕ) (x v : declared.Thread)
    (ds : List ThreadClock) : Type 0 where
  pub inside : i < length ts
  pub clocked : i < length cs
  pub item : item_at ts i ≡ x
  pub kept : KeepsOthers i x cs v ds

pub item_thread : (ts : List declared.Thread) (cs : List ThreadClock) (i : ℕ) (x : declared.Thread) → i < length ts
    → item_at ts i ≡ x → get_or (joined ts cs) i no_thread ≡ timed x (clock_at cs i)
item_thread ts cs i x inside at = get-joined ts cs i inside ∙ ap (λ (t : declared.Thread). timed t (clock_at cs i)) at

pub joined_inside : (ts : List declared.Thread) (cs : List ThreadClock) (i : ℕ) → i < length ts
    → i < length (joined ts cs)
joined_inside ts cs i inside = subst (λ (n : ℕ). i < n) (sym (length-joined ts cs)) inside

pub item_phase : (ts : List declared.Thread) (cs : List ThreadClock) (i : ℕ) (x : declared.Thread) (p : Phase)
    → i < length ts → item_at ts i ≡ x → x.phase ≡ p → (let t : Thread = get_or (joined ts cs) i no_thread in t.phase)
    ≡ p
item_phase ts cs i x p inside at is = ap (λ (t : Thread). t.phase) (item_thread ts cs i x inside at) ∙ is

-- a run with these threads and clocks, and what it has beside them
abbrev pub run_at : Whole → List declared.Thread → List ThreadClock → Whole
run_at w ts cs = record w { threads = joined ts cs }

pub item_of : (ts : List declared.Thread) (cs : List ThreadClock) (i : ℕ) (x v : declared.Thread)
    (ds : List ThreadClock) → Agree ts cs → i < length ts → x ≡ get_or ts i x → KeepsOthers i x cs v ds
    → Item ts cs i x v ds
item_of ts cs i x v ds agree inside at kept =
    record {
      inside = inside;
      clocked = subst (λ (n : ℕ). i < n) (sym (agree_length ts cs agree)) inside;
      item = item_is ts i x inside at;
      kept = kept;
    }

pub item_agrees : (ts : List declared.Thread) (cs : List ThreadClock) (i : ℕ) (x v : declared.Thread)
    (ds : List ThreadClock) → Agree ts cs → Item ts cs i x v ds → Agree (set ts i v) ds
item_agrees ts cs i x v ds agree h = agree-kept ts cs ds i x v agree h.inside h.item h.kept

pub ask_done : (w : Whole) (ts : List declared.Thread) (cs ds : List ThreadClock) (i : ℕ) (x : Step)
    (t v : declared.Thread) (r : Result Bool AllocError) → StepsOfArisen → Item ts cs i t v ds → t.phase ≡ phase.Working
    → IfOk r (λ moved. Asks moved x (timed t (clock_at cs i)) (timed v (clock_at ds i)))
    → IfOk r (λ moved. AsksFor moved i x (run_at w ts cs) (run_at w (set ts i v) ds))
ask_done w ts cs ds i x t v r law h works asked =
    let z = run_at w ts cs in
    let P : Bool → Type 0 = λ moved. Asks moved x (timed t (clock_at cs i)) (timed v (clock_at ds i)) in
    let Q : Bool → Type 0 = λ moved. AsksFor moved i x z (run_at w (set ts i v) ds) in
    IfOk-weaker r P Q (λ moved a.
    let R : Thread → Type 0 = λ y. Asks moved x y (timed v (clock_at ds i)) in
    let T : List Thread → Type 0 = λ l. AsksFor moved i x z (record w { threads = l }) in
    subst T (sym (joined-kept ts cs ds i t v h.clocked h.kept))
    (ask_event z i moved x (timed v (clock_at ds i)) law (joined_inside ts cs i h.inside)
    (item_phase ts cs i t phase.Working h.inside h.item works)
    (subst R (sym (item_thread ts cs i t h.inside h.item)) a))) asked

-- a call is asked: its clock stands still
pub asked_want : (r : Result Bool AllocError) (clock : ℕ) (x : Step) (call : Call) (old new : declared.Thread)
    → x ≡ step.Call call → IfOk r (λ moved. (moved ≡ true) × ((n : ℕ) → timed new n ≡ after_want call (timed old n)))
    → IfOk r (λ moved. Asks moved x (timed old clock) (timed new clock))
asked_want r clock x call old new is h =
    let P : Bool → Type 0 = λ moved. (moved ≡ true) × ((n : ℕ) → timed new n ≡ after_want call (timed old n)) in
    let Q : Bool → Type 0 = λ moved. Asks moved x (timed old clock) (timed new clock) in
    IfOk-weaker r P Q (λ moved a. let R : Step → Type 0 = λ y. Asks moved y (timed old clock) (timed new clock) in
    subst R (sym is) (a.0, a.1 clock)) h

abbrev pub GrantedPhase : Phase → ℕ → Option ℕ → Type 0
GrantedPhase p place object = (e : TurnEnd) × (p ≡ phase.Granted place object e)

pub granted_phase : (p : Phase) (place : ℕ) (object : Option ℕ) → GrantedIn p place object → GrantedPhase p place object
granted_phase phase.Working place object h = absurd h
granted_phase (phase.WantsTable call carried) place object h = absurd h
granted_phase (phase.WantsObject call carried clock n) place object h = absurd h
granted_phase (phase.Granted row n e) place object h = (e, ap₂ (λ (r : ℕ) (o : Option ℕ). phase.Granted r o e) h.0 h.1)
granted_phase (phase.ToOutside o) place object h = absurd h
granted_phase (phase.Outside o) place object h = absurd h
granted_phase (phase.Recorded o) place object h = absurd h
granted_phase (phase.Blocked carried) place object h = absurd h
granted_phase phase.Ended place object h = absurd h

pub answer_done : LocksOfArisen → RowsOfArisen
    → (w : Whole) (ts : List declared.Thread) (cs ds : List ThreadClock) (rows_now : List HistoryRow) (i place : ℕ)
    (object : Option ℕ) (x v : declared.Thread) (own l : DetLock) (told : Option posix.Answer)
    → Item ts cs i x v ds → GrantedIn x.phase place object → own ≡ lock_held (run_at w ts cs) object
    → ((table : Stored) → Answers told i place (parts (timed x (clock_at cs i)) own table w.rows)
    (parts (timed v (clock_at ds i)) l table rows_now))
    → Tells told i (run_at w ts cs) (with_lock (run_at w ts cs) object l (joined (set ts i v) ds) rows_now)
answer_done held rows w ts cs ds rows_now i place object x v own l told h is own_is answered =
    let z = run_at w ts cs in
    let found = granted_phase x.phase place object is in
    let R : Thread → Type 0 = λ t. Answers told i place (parts t (lock_held z object) w.table w.rows)
    (parts (timed v (clock_at ds i)) l w.table rows_now) in
    let K : DetLock → Type 0 = λ k. Answers told i place (parts (timed x (clock_at cs i)) k w.table w.rows)
    (parts (timed v (clock_at ds i)) l w.table rows_now) in
    let T : List Thread → Type 0 = λ us. Tells told i z (with_lock z object l us rows_now) in
    subst T (sym (joined-kept ts cs ds i x v h.clocked h.kept))
    (answer_event held rows z i place object found.0 told (timed v (clock_at ds i)) l rows_now
    (joined_inside ts cs i h.inside)
    (item_phase ts cs i x (phase.Granted place object found.0) h.inside h.item found.1)
    (subst R (sym (item_thread ts cs i x h.inside h.item)) (subst K own_is (answered w.table))))

-- an event that leaves the clocks as they are
pub item_still : (ts : List declared.Thread) (cs : List ThreadClock) (i : ℕ) (x v : declared.Thread) → Agree ts cs
    → i < length ts → x ≡ get_or ts i x → is_live x.phase ≡ is_live v.phase → Item ts cs i x v cs
item_still ts cs i x v agree inside at live =
    item_of ts cs i x v cs agree inside at
    (kept_still i x v cs cs (subst (λ (n : ℕ). i < n) (sym (agree_length ts cs agree)) inside) refl live)

abbrev pub BlockedPhase : Phase → Type 0
BlockedPhase p = (carried : Carried) × (p ≡ phase.Blocked carried)

pub blocked_phase : (p : Phase) → BlockedIn p → BlockedPhase p
blocked_phase phase.Working h = absurd h
blocked_phase (phase.WantsTable call carried) h = absurd h
blocked_phase (phase.WantsObject call carried clock n) h = absurd h
blocked_phase (phase.Granted row n e) h = absurd h
blocked_phase (phase.ToOutside o) h = absurd h
blocked_phase (phase.Outside o) h = absurd h
blocked_phase (phase.Recorded o) h = absurd h
blocked_phase (phase.Blocked carried) h = (carried, refl)
blocked_phase phase.Ended h = absurd h

pub again_done : (w : Whole) (ts : List declared.Thread) (cs : List ThreadClock) (i : ℕ) (x v : declared.Thread)
    (r : Result Bool AllocError)
    → StepsOfArisen → Item ts cs i x v cs → BlockedIn x.phase
    → IfOk r (λ moved. (clock : ℕ) → GoesAgain moved (timed x clock) (timed v clock))
    → IfOk r (λ moved. AdvancesQuietly moved i (run_at w ts cs) (run_at w (set ts i v) cs))
again_done w ts cs i x v r law h is went =
    let z = run_at w ts cs in
    let clock = clock_at cs i in
    let (carried, at) = (blocked_phase x.phase is) in
    let P : Bool → Type 0 = λ moved. (n : ℕ) → GoesAgain moved (timed x n) (timed v n) in
    let Q : Bool → Type 0 = λ moved. AdvancesQuietly moved i z (run_at w (set ts i v) cs) in
    IfOk-weaker r P Q (λ moved goes.
    let R : Thread → Type 0 = λ t. GoesAgain moved t (timed v clock) in
    let T : List Thread → Type 0 = λ l. AdvancesQuietly moved i z (record w { threads = l }) in
    subst T (sym (joined-kept ts cs cs i x v h.clocked h.kept))
    (again_event z i carried moved (timed v clock) law (joined_inside ts cs i h.inside)
    (item_phase ts cs i x (phase.Blocked carried) h.inside h.item at)
    (subst R (sym (item_thread ts cs i x h.inside h.item)) (goes clock)))) went

pub begin_done : (w : Whole) (ts : List declared.Thread) (cs ds : List ThreadClock) (i : ℕ) (o : Outing)
    (x v : declared.Thread) (moved : Bool)
    → Item ts cs i x v ds → x.phase ≡ phase.ToOutside o
    → Begins w.settings.door_cost o moved (timed x (clock_at cs i)) (timed v (clock_at ds i))
    → AdvancesQuietly moved i (run_at w ts cs) (run_at w (set ts i v) ds)
begin_done w ts cs ds i o x v moved h is begins =
    let z = run_at w ts cs in
    let R : Thread → Type 0 = λ t. Begins w.settings.door_cost o moved t (timed v (clock_at ds i)) in
    let T : List Thread → Type 0 = λ l. AdvancesQuietly moved i z (record w { threads = l }) in
    subst T (sym (joined-kept ts cs ds i x v h.clocked h.kept))
    (begin_event z i o moved (timed v (clock_at ds i)) (joined_inside ts cs i h.inside)
    (item_phase ts cs i x (phase.ToOutside o) h.inside h.item is)
    (subst R (sym (item_thread ts cs i x h.inside h.item)) begins))

pub item_recorded : (ts : List declared.Thread) (cs : List ThreadClock) (i : ℕ) (o : Outing) (x v : declared.Thread)
    → Agree ts cs → i < length ts → x ≡ get_or ts i x → x.phase ≡ phase.Outside o
    → (is_live x.phase ≡ true → is_live v.phase ≡ true) → Item ts cs i x v cs
item_recorded ts cs i o x v agree inside at is live = let lives : is_live x.phase ≡ true = ap is_live is in
    item_still ts cs i x v agree inside at (lives ∙ sym (live lives))

pub record_done : AskLittle → RowsOfArisen → PlansOfArisen
    → (w : Whole) (ts : List declared.Thread) (cs : List ThreadClock) (i : ℕ) (o : Outing) (g : Given)
    (x v : declared.Thread) (rows : List HistoryRow) (made : Progress) → Item ts cs i x v cs → x.phase ≡ phase.Outside o
    → ((clock : ℕ) → Records made o g (recorded_parts (timed x clock) w.rows) (recorded_parts (timed v clock) rows))
    → RecordsGiven made i g (run_at w ts cs) (record w { threads = joined (set ts i v) cs; rows = rows })
record_done law own plans w ts cs i o g x v rows made h is records =
    let z = run_at w ts cs in
    let clock = clock_at cs i in
    let R : Thread → Type 0 = λ t. Records made o g (recorded_parts t w.rows) (recorded_parts (timed v clock) rows) in
    let T : List Thread → Type 0 = λ us. RecordsGiven made i g z (record w { threads = us; rows = rows }) in
    subst T (sym (joined-kept ts cs cs i x v h.clocked h.kept))
    (record_event law own plans z i o g made (recorded_parts (timed v clock) rows) (joined_inside ts cs i h.inside)
    (item_phase ts cs i x (phase.Outside o) h.inside h.item is)
    (subst R (sym (item_thread ts cs i x h.inside h.item)) (records clock)))

pub conclude_done : LocksOfArisen → RowsOfArisen → PlansOfArisen
    → (w : Whole) (ts : List declared.Thread) (cs ds : List ThreadClock) (i n : ℕ) (o : Outing) (x v : declared.Thread)
    (before own l : DetLock) (later : Stored) (rows : List HistoryRow) (told : Option posix.Answer)
    → Item ts cs i x v ds → x.phase ≡ phase.Recorded o → o.object ≡ Some n → before ≡ get_or w.objects n new_lock
    → AnswersOutside w.settings.patience told i o (outside_parts (timed x (clock_at cs i)) before w.lock w.table w.rows)
    (outside_parts (timed v (clock_at ds i)) own l later rows)
    → Tells told i (run_at w ts cs)
    (record w {
      threads = joined (set ts i v) ds;
      lock = l;
      objects = set w.objects n own;
      table = later;
      rows = rows;
    })
conclude_done held open_rows plans w ts cs ds i n o x v before own l later rows told h is object_is before_is answered =
    let z = run_at w ts cs in
    let new = outside_parts (timed v (clock_at ds i)) own l later rows in
    let K : DetLock → Type 0 = λ k. AnswersOutside w.settings.patience told i o
    (outside_parts (timed x (clock_at cs i)) k w.lock w.table w.rows) new in
    let R : Thread → Type 0 = λ t. AnswersOutside w.settings.patience told i o
    (outside_parts t (get_or w.objects n new_lock) w.lock w.table w.rows) new in
    let T : List Thread → Type 0 =
    λ us. Tells told i z (record w {
      threads = us;
      lock = l;
      objects = set w.objects n own;
      table = later;
      rows = rows;
    }) in
    subst T (sym (joined-kept ts cs ds i x v h.clocked h.kept))
    (conclude_event held open_rows plans z i n o told new (joined_inside ts cs i h.inside)
    (item_phase ts cs i x (phase.Recorded o) h.inside h.item is) object_is
    (subst R (sym (item_thread ts cs i x h.inside h.item)) (subst K before_is answered)))

pub turn_shown : (ts : List declared.Thread) (cs : List ThreadClock) (i : ℕ) (b : Bool) → Agree ts cs
    → has_turn (live_clocks cs) i ≡ b → has_turn (clocks_of (joined ts cs)) i ≡ b
turn_shown ts cs i b agree h = ap (λ (l : List (Option ℕ)). has_turn l i) (sym (live-joined ts cs agree)) ∙ h

-- ## Where nothing is done

pub phase_at : (ts : List declared.Thread) (i : ℕ) (x : declared.Thread) (p : Phase) → i < length ts → x ≡ get_or ts i x
    → (let t : declared.Thread = item_at ts i in t.phase) ≡ p → x.phase ≡ p
phase_at ts i x p inside at is = ap (λ (t : declared.Thread). t.phase) (sym (item_is ts i x inside at)) ∙ is

pub wants_at : (ts : List declared.Thread) (i n : ℕ) (x : declared.Thread) → i < length ts → x ≡ get_or ts i x
    → (let t : declared.Thread = item_at ts i in WantsIn t.phase n) → WantsIn x.phase n
wants_at ts i n x inside at h = let P : declared.Thread → Type 0 = λ t. WantsIn t.phase n in
    subst P (item_is ts i x inside at) h

pub granted_at : (ts : List declared.Thread) (i place : ℕ) (object : Option ℕ) (x : declared.Thread) → i < length ts
    → x ≡ get_or ts i x → GrantedIn (let t : declared.Thread = item_at ts i in t.phase) place object
    → GrantedIn x.phase place object
granted_at ts i place object x inside at h = let P : declared.Thread → Type 0 = λ t. GrantedIn t.phase place object in
    subst P (item_is ts i x inside at) h

pub blocked_at : (ts : List declared.Thread) (i : ℕ) (x : declared.Thread) → i < length ts → x ≡ get_or ts i x
    → BlockedIn (let t : declared.Thread = item_at ts i in t.phase) → BlockedIn x.phase
blocked_at ts i x inside at h = let P : declared.Thread → Type 0 = λ t. BlockedIn t.phase in
    subst P (item_is ts i x inside at) h

-- a call past the last number of objects
pub answer_none : (w : Whole) (ts : List declared.Thread) (cs : List ThreadClock) (i place n : ℕ) → i < length ts
    → GrantedIn (let t : declared.Thread = item_at ts i in t.phase) place (Some n) → length w.objects ≤ n
    → Tells None i (run_at w ts cs) (run_at w ts cs)
answer_none w ts cs i place n inside is past =
    let found = granted_phase (let t : declared.Thread = item_at ts i in t.phase) place (Some n) is in
    answer_past (run_at w ts cs) i place n found.0
    (item_phase ts cs i (item_at ts i) (phase.Granted place (Some n) found.0) inside refl found.1) past

-- nor has a call that came back no object, or one past the last
pub conclude_none : (w : Whole) (ts : List declared.Thread) (cs : List ThreadClock) (i : ℕ) (o : Outing) → i < length ts
    → (let t : declared.Thread = item_at ts i in t.phase) ≡ phase.Recorded o
    → ((n : ℕ) → o.object ≡ Some n → length w.objects ≤ n) → Tells None i (run_at w ts cs) (run_at w ts cs)
conclude_none w ts cs i o inside is past terms s (arises, h) =
    let z = run_at w ts cs in
    let P : Phase → Type 0 = λ p. PhaseShows terms i s.rows (thread_at z i) (thread_of s i) p in
    let g = subst P (item_phase ts cs i (item_at ts i) (phase.Recorded o) inside refl is) (h.threads i).phase in
    absurd (too_far g.1.1.object (length w.objects) g.1.1.in_range h.object_count (past g.1.1.object g.1.1.object_is))
  where
    too_far : (n m : ℕ) → n < limit.OBJECTS → m ≡ limit.OBJECTS → m ≤ n → ⊥
    too_far n m few e past = omega arith

below_by : (n i : ℕ) (o : Option ℕ) (b : Bool) → (o ≡ Some i → i < n) → first_or o b n ≡ Some i → i < suc n
below_by n i (Some j) b earlier h = let before = earlier h in omega arith
below_by n i None true earlier h = let same : n ≡ i = same_Some n i h in omega arith
below_by n i None false earlier h = absurd (none-some i h)

below_first : (n : ℕ) (p : ℕ → Bool) (i : ℕ) → first_below n p ≡ Some i → i < n
unfolding first_below
below_first zero p i h = absurd (none-some i h)
below_first (suc n) p i h = below_by n i (first_below n p) (p n) (below_first n p i) h

-- the thread that has the turn is one of the run's
pub holder_inside : (ts : List declared.Thread) (cs : List ThreadClock) (i : ℕ) → Agree ts cs
    → turn_holder (live_clocks cs) ≡ Some i → i < length ts
unfolding turn_holder
holder_inside ts cs i agree h =
    subst (λ (n : ℕ). i < n) (length-map cs live_clock ∙ agree_length ts cs agree)
    (below_first (length (live_clocks cs)) (has_turn (live_clocks cs)) i h)

-- a call that came back has an object
pub conclude_lost : (w : Whole) (i : ℕ) (o : Outing) → (thread_at w i).phase ≡ phase.Recorded o
    → ((n : ℕ) → o.object ≡ Some n → ⊥) → Tells None i w w
conclude_lost w i o is lost terms s (arises, h) =
    let P : Phase → Type 0 = λ p. PhaseShows terms i s.rows (thread_at w i) (thread_of s i) p in
    let g = subst P is (h.threads i).phase in
    absurd (lost g.1.1.object g.1.1.object_is)
