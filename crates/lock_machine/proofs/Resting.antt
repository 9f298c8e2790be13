-- An event that is not made leaves the machine as it was.
use Rattle.std.proofs.Common.{◌≡◌, ℕ, ◌<◌, List, length, get_or, set, Option, Some, None, Bool, true, false, is_some}
use Rattle.std.proofs.Common.{sym, refl, ap, ◌∙◌, subst}
use Rattle.std.proofs.lemmas.Bool.{true≢false}
use Rattle.std.proofs.lemmas.List.{set-get_or}
use Rattle.std.proofs.lemmas.Result.{IfOk-weaker}
use Rattle.std.specs.Prelude.{IfOk, OnErr, Result, Ok, Err, slice_get}
use Rattle.std.specs.declared.alloc.AllocError.{AllocError}
use Rattle.det_mutex.specs.Attempt.{new_lock}
use Rattle.det_mutex.specs.declared.lock.DetLock.{DetLock}
use Rattle.logical_clocks.specs.ThreadClocks.{clock_at}
use Rattle.logical_clocks.specs.declared.clocks.ThreadClock.{ThreadClock}
use Rattle.call_turns.specs.Store.{Stored}
use Rattle.sequential_object.specs.declared.turn_end.TurnEnd.{TurnEnd}
use Rattle.sequential_object.specs.Step.{Carried}
use Rattle.posix_terms.specs.Calls.{Call}
use Rattle.posix_terms.specs.declared.outcome.Given.{Given}
use Rattle.posix_terms.specs.declared.outcome.Outcome.{Outcome}
use Rattle.posix_terms.specs.declared.reply.Answer as posix
use Rattle.posix_terms.specs.declared.transcript.HistoryRow.{HistoryRow}
use Rattle.posix_terms.specs.declared.step.Step.{Step}
use Rattle.posix_terms.specs.declared.step.Step.TheVariants as step
use Rattle.lock_model.specs.Held.{has_end, last_call}
use Rattle.lock_machine.specs.Requests.{AskLittle}
use Rattle.lock_machine.specs.Asking.{Asks, EndsIf, GoesAgain, GoesAgainIn, GoesAgainWith}
use Rattle.lock_machine.specs.Events.{Answers, AnswersIn, AnswersWith, IfInTime, Parts, Reaches, ReachesIn, Tries}
use Rattle.lock_machine.specs.Events.{TriesIn, parts}
use Rattle.lock_machine.specs.Outings.{AnswersOutside, Begins, BeginsIf, ConcludesHeld, ConcludesIf, ConcludesRow}
use Rattle.lock_machine.specs.Outings.{ConcludesWith, OutsideParts, RecordedParts, Records, RecordsIf, RecordsRow}
use Rattle.lock_machine.specs.Outings.{answers_errand, can_count, outside_parts, progress_at, progress_by}
use Rattle.lock_machine.specs.Outings.{recorded_parts}
use Rattle.lock_machine.specs.Refusals.{Rests, outlook, outlook_in}
use Rattle.lock_machine.specs.Shows.{RecordsGiven, has_moved}
use Rattle.lock_machine.specs.Threads.{Thread, joined, timed}
use Rattle.lock_machine.specs.Views.{no_thread}
use Rattle.lock_machine.specs.Whole.{Whole, thread_at}
use Rattle.lock_machine.specs.declared.outside.Progress.{Progress}
use Rattle.lock_machine.specs.declared.thread.Outing.{Outing}
use Rattle.lock_machine.specs.declared.thread.Phase.{Phase}
use Rattle.lock_machine.specs.declared.thread.Phase.TheVariants as phase
use Rattle.lock_machine.specs.declared.thread.Thread as declared
use Rattle.lock_model.specs.Laws.{PlansOfArisen, RowsOfArisen}
use Rattle.lock_machine.proofs.AnswerShows.{lock_held, with_lock}
use Rattle.lock_machine.proofs.EventShows.{Item, item_thread, record_event, run_at}
use Rattle.lock_machine.proofs.OutsideShows.{recorded_at}
use Rattle.lock_machine.proofs.Joining.{joined-kept}

pub rests_by : (moved : Bool) (old new : Whole) → (moved ≡ false → new ≡ old) → Rests moved old new
rests_by true old new h = tt
rests_by false old new h = h refl

-- the item and its clock are as they were, and so are the threads
pub same_threads : (ts : List declared.Thread) (cs ds : List ThreadClock) (i : ℕ) (x v : declared.Thread)
    → Item ts cs i x v ds → timed v (clock_at ds i) ≡ timed x (clock_at cs i) → joined (set ts i v) ds ≡ joined ts cs
same_threads ts cs ds i x v h same =
    joined-kept ts cs ds i x v h.clocked h.kept
    ∙ ap (set (joined ts cs) i) (same ∙ sym (item_thread ts cs i x h.inside h.item))
    ∙ set-get_or (joined ts cs) i no_thread

pub same_run : (w : Whole) (ts : List declared.Thread) (cs ds : List ThreadClock) (i : ℕ) (x v : declared.Thread)
    → Item ts cs i x v ds → timed v (clock_at ds i) ≡ timed x (clock_at cs i)
    → run_at w (set ts i v) ds ≡ run_at w ts cs
same_run w ts cs ds i x v h same = ap (λ (l : List Thread). record w { threads = l })
    (same_threads ts cs ds i x v h same)

-- ## Steps, and what needs no turn

ends_rest : (ended moved : Bool) (old new : Thread) → EndsIf ended moved old new → moved ≡ false → new ≡ old
ends_rest true moved old new h stays = h.1
ends_rest false moved old new h stays = absurd (true≢false (sym h.0 ∙ stays))

asks_rest : (moved : Bool) (x : Step) (old new : Thread) → Asks moved x old new → moved ≡ false → new ≡ old
asks_rest true (step.Work n) old new h stays = absurd (true≢false stays)
asks_rest false (step.Work n) old new h stays = h.1
asks_rest moved (step.Call call) old new h stays = absurd (true≢false (sym h.0 ∙ stays))
asks_rest moved step.End old new h stays = ends_rest (has_end old.asked) moved old new h stays

pub ask_rests : (w : Whole) (ts : List declared.Thread) (cs ds : List ThreadClock) (i : ℕ) (x : Step)
    (t v : declared.Thread) (r : Result Bool AllocError) → Item ts cs i t v ds
    → IfOk r (λ moved. Asks moved x (timed t (clock_at cs i)) (timed v (clock_at ds i)))
    → IfOk r (λ moved. Rests moved (run_at w ts cs) (run_at w (set ts i v) ds))
ask_rests w ts cs ds i x t v r h asked =
    let P : Bool → Type 0 = λ moved. Asks moved x (timed t (clock_at cs i)) (timed v (clock_at ds i)) in
    let Q : Bool → Type 0 = λ moved. Rests moved (run_at w ts cs) (run_at w (set ts i v) ds) in
    IfOk-weaker r P Q (λ moved a. rests_by moved (run_at w ts cs) (run_at w (set ts i v) ds)
    (λ stays. same_run w ts cs ds i t v h
    (asks_rest moved x (timed t (clock_at cs i)) (timed v (clock_at ds i)) a stays))) asked

-- a step that finds no memory
pub ask_errs : (w : Whole) (ts : List declared.Thread) (cs ds : List ThreadClock) (i : ℕ) (t v : declared.Thread)
    (r : Result Bool AllocError) → Item ts cs i t v ds → OnErr r ((v ≡ t) × (ds ≡ cs))
    → OnErr r (run_at w (set ts i v) ds ≡ run_at w ts cs)
ask_errs w ts cs ds i t v (Ok moved) h same = tt
ask_errs w ts cs ds i t v (Err e) h same =
    same_run w ts cs ds i t v h (ap (λ (x : declared.Thread). timed x (clock_at ds i)) same.0
    ∙ ap (λ (l : List ThreadClock). timed t (clock_at l i)) same.1)

goes_with_rest : (call : Option Call) (carried : Carried) (moved : Bool) (old new : Thread)
    → GoesAgainWith call carried moved old new → moved ≡ false → new ≡ old
goes_with_rest (Some call) carried moved old new h stays = absurd (true≢false (sym h.0 ∙ stays))
goes_with_rest None carried moved old new h stays = h.1

goes_again_rest : (p : Phase) (moved : Bool) (old new : Thread) → GoesAgainIn p moved old new → moved ≡ false
    → new ≡ old
goes_again_rest (phase.Blocked carried) moved old new h stays = goes_with_rest (last_call old.asked) carried moved old
    new h stays
goes_again_rest p moved old new h stays = h.1

pub again_rests : (w : Whole) (ts : List declared.Thread) (cs : List ThreadClock) (i : ℕ) (x v : declared.Thread)
    (r : Result Bool AllocError) → Item ts cs i x v cs
    → IfOk r (λ moved. (clock : ℕ) → GoesAgain moved (timed x clock) (timed v clock))
    → IfOk r (λ moved. Rests moved (run_at w ts cs) (run_at w (set ts i v) cs))
again_rests w ts cs i x v r h went =
    let P : Bool → Type 0 = λ moved. (n : ℕ) → GoesAgain moved (timed x n) (timed v n) in
    let Q : Bool → Type 0 = λ moved. Rests moved (run_at w ts cs) (run_at w (set ts i v) cs) in
    IfOk-weaker r P Q (λ moved goes.
    rests_by moved (run_at w ts cs) (run_at w (set ts i v) cs)
    (λ stays. same_run w ts cs cs i x v h
    (goes_again_rest x.phase moved (timed x (clock_at cs i)) (timed v (clock_at cs i)) (goes (clock_at cs i))
    stays))) went

-- a blocked call that finds no memory
pub again_errs : (w : Whole) (ts : List declared.Thread) (cs : List ThreadClock) (i : ℕ) (x v : declared.Thread)
    (r : Result Bool AllocError) → Item ts cs i x v cs → OnErr r (v ≡ x)
    → OnErr r (run_at w (set ts i v) cs ≡ run_at w ts cs)
again_errs w ts cs i x v (Ok moved) h same = tt
again_errs w ts cs i x v (Err e) h same =
    same_run w ts cs cs i x v h (ap (λ (t : declared.Thread). timed t (clock_at cs i)) same)

begins_rest : (room : Bool) (cost : ℕ) (o : Outing) (moved : Bool) (old new : Thread)
    → BeginsIf room cost o moved old new → moved ≡ false → new ≡ old
begins_rest true cost o moved old new h stays = absurd (true≢false (sym h.0 ∙ stays))
begins_rest false cost o moved old new h stays = h.1

pub begin_rests : (w : Whole) (ts : List declared.Thread) (cs ds : List ThreadClock) (i : ℕ) (o : Outing)
    (x v : declared.Thread) (moved : Bool) → Item ts cs i x v ds
    → Begins w.settings.door_cost o moved (timed x (clock_at cs i)) (timed v (clock_at ds i))
    → Rests moved (run_at w ts cs) (run_at w (set ts i v) ds)
begin_rests w ts cs ds i o x v moved h begins =
    rests_by moved (run_at w ts cs) (run_at w (set ts i v) ds)
    (λ stays. same_run w ts cs ds i x v h
    (begins_rest _ w.settings.door_cost o moved (timed x (clock_at cs i)) (timed v (clock_at ds i)) begins stays))

-- ## `record`

records_if_rest : (answers room : Bool) (made : Progress) (o : Outing) (g : Given) (q : HistoryRow)
    (old new : RecordedParts) → RecordsIf answers room made o g q old new → has_moved made ≡ false → new ≡ old
records_if_rest true true made o g q old new h stays = absurd (true≢false (sym (ap has_moved h.0) ∙ stays))
records_if_rest true false made o g q old new h stays = h.1
records_if_rest false room made o g q old new h stays = h.1

records_rest : (x : Option HistoryRow) (made : Progress) (o : Outing) (g : Given) (old new : RecordedParts)
    → RecordsRow x made o g old new → has_moved made ≡ false → new ≡ old
records_rest (Some q) made o g old new h stays = records_if_rest _ _ made o g q old new h stays
records_rest None made o g old new h stays = h.1

pub record_rests : (w : Whole) (ts : List declared.Thread) (cs : List ThreadClock) (i : ℕ) (o : Outing) (g : Given)
    (x v : declared.Thread) (rows : List HistoryRow) (made : Progress) → Item ts cs i x v cs
    → ((clock : ℕ) → Records made o g (recorded_parts (timed x clock) w.rows) (recorded_parts (timed v clock) rows))
    → Rests (has_moved made) (run_at w ts cs) (record w { threads = joined (set ts i v) cs; rows = rows })
record_rests w ts cs i o g x v rows made h records =
    let z = run_at w ts cs in
    let new : Whole = record w { threads = joined (set ts i v) cs; rows = rows } in
    let clock = clock_at cs i in
    rests_by (has_moved made) z new (λ stays.
    let same = records_rest _ made o g (recorded_parts (timed x clock) w.rows) (recorded_parts (timed v clock) rows)
    (records clock) stays in
    ap (λ (l : List Thread). record w { threads = l; rows = rows })
    (same_threads ts cs cs i x v h (ap (λ (p : RecordedParts). p.thread) same))
    ∙ ap (λ (p : RecordedParts). record w { threads = joined ts cs; rows = p.rows }) same)

-- what comes of an outcome is what was to be seen before
progress_if : (answers room : Bool) (made : Progress) (o : Outing) (g : Given) (q : HistoryRow)
    (old new : RecordedParts) → RecordsIf answers room made o g q old new → made ≡ progress_by answers room
progress_if true true made o g q old new h = h.0
progress_if true false made o g q old new h = h.0
progress_if false room made o g q old new h = h.0

progress_is : (x : Option HistoryRow) (made : Progress) (o : Outing) (g : Given) (old new : RecordedParts)
    → RecordsRow x made o g old new → made ≡ progress_at x o g (can_count old.thread)
progress_is (Some q) made o g old new h = progress_if _ _ made o g q old new h
progress_is None made o g old new h = h.0

-- the outlook of a thread that is outside
pub outlook_at : (w : Whole) (i : ℕ) (o : Outing) (g : Given) → (thread_at w i).phase ≡ phase.Outside o
    → outlook w i g ≡ progress_at (slice_get w.rows o.row) o g (can_count (thread_at w i))
outlook_at w i o g is = ap (λ (p : Phase). outlook_in p (thread_at w i) w.rows g) is

pub outlook_is : (w : Whole) (ts : List declared.Thread) (cs : List ThreadClock) (i : ℕ) (o : Outing) (g : Given)
    (x v : declared.Thread) (rows : List HistoryRow) (made : Progress) → Item ts cs i x v cs → x.phase ≡ phase.Outside o
    → ((clock : ℕ) → Records made o g (recorded_parts (timed x clock) w.rows) (recorded_parts (timed v clock) rows))
    → made ≡ outlook (run_at w ts cs) i g
outlook_is w ts cs i o g x v rows made h is records =
    let z = run_at w ts cs in
    let clock = clock_at cs i in
    let own = item_thread ts cs i x h.inside h.item in
    progress_is _ made o g (recorded_parts (timed x clock) w.rows) (recorded_parts (timed v clock) rows) (records clock)
    ∙ ap (λ (t : Thread). progress_at (slice_get w.rows o.row) o g (can_count t)) (sym own)
    ∙ sym (outlook_at z i o g (ap (λ (t : Thread). t.phase) own ∙ is))

-- an outcome that would not be taken: the machine stays
stays_recorded : (x : Option HistoryRow) (o : Outing) (g : Given) (p : RecordedParts)
    → has_moved (progress_at x o g (can_count p.thread)) ≡ false
    → RecordsRow x (progress_at x o g (can_count p.thread)) o g p p
stays_recorded None o g p stays = (refl, refl)
stays_recorded (Some q) o g p stays = by_tests (answers_errand o.errand q.turn g) (can_count p.thread) stays
  where
    by_tests : (answers room : Bool) → has_moved (progress_by answers room) ≡ false
        → RecordsIf answers room (progress_by answers room) o g q p p
    by_tests true true stays = absurd (true≢false stays)
    by_tests true false stays = (refl, refl)
    by_tests false room stays = (refl, refl)

pub outlook_event : AskLittle → RowsOfArisen → PlansOfArisen → (w : Whole) (i : ℕ) (o : Outing) (g : Given)
    → i < length w.threads → (thread_at w i).phase ≡ phase.Outside o → has_moved (outlook w i g) ≡ false
    → RecordsGiven (outlook w i g) i g w w
outlook_event law own plans w i o g inside is stays =
    let seen = outlook_at w i o g is in
    let made = progress_at (slice_get w.rows o.row) o g (can_count (thread_at w i)) in
    let records : Records made o g (recorded_at w i) (recorded_at w i) =
    stays_recorded (slice_get w.rows o.row) o g (recorded_at w i) (ap has_moved (sym seen) ∙ stays) in
    let event = record_event law own plans w i o g made (recorded_at w i) inside is records in
    let T : List Thread → Type 0 = λ l. RecordsGiven made i g w (record w { threads = l }) in
    let P : Progress → Type 0 = λ p. RecordsGiven p i g w w in
    subst P (sym seen) (subst T (set-get_or w.threads i no_thread) event)

-- ## `answer`

answers_rest : (e : Option TurnEnd) (q : Option HistoryRow) (told : Option posix.Answer) (row : ℕ) (old new : Parts)
    → AnswersWith told row e q old new → is_some told ≡ false → new ≡ old
answers_rest (Some e) (Some q) told row old new h stays = absurd (true≢false (sym (ap is_some h.0) ∙ stays))
answers_rest (Some e) None told row old new h stays = h.1
answers_rest None q told row old new h stays = h.1

concludes_rest_if : (room : Bool) (patience : ℕ) (told : Option posix.Answer) (o : Outing) (q : HistoryRow)
    (x : Outcome) (old new : OutsideParts) → ConcludesIf room patience told o q x old new → is_some told ≡ false
    → new ≡ old
concludes_rest_if true patience told o q x old new (e, h) stays = absurd (true≢false (sym (ap is_some h.0) ∙ stays))
concludes_rest_if false patience told o q x old new h stays = h.1

concludes_rest_with : (x : Option Outcome) (q : HistoryRow) (patience : ℕ) (told : Option posix.Answer) (o : Outing)
    (old new : OutsideParts) → ConcludesWith x q patience told o old new → is_some told ≡ false → new ≡ old
concludes_rest_with (Some x) q patience told o old new h stays = concludes_rest_if _ patience told o q x old new h stays
concludes_rest_with None q patience told o old new h stays = h.1

concludes_rest_row : (q : Option HistoryRow) (patience : ℕ) (told : Option posix.Answer) (o : Outing)
    (old new : OutsideParts) → ConcludesRow q patience told o old new → is_some told ≡ false → new ≡ old
concludes_rest_row (Some q) patience told o old new h stays = concludes_rest_with q.outcome q patience told o old new h
    stays
concludes_rest_row None patience told o old new h stays = h.1

concludes_rest : (held : Bool) (patience : ℕ) (told : Option posix.Answer) (o : Outing) (old new : OutsideParts)
    → ConcludesHeld held patience told o old new → is_some told ≡ false → new ≡ old
concludes_rest true patience told o old new h stays = concludes_rest_row _ patience told o old new h stays
concludes_rest false patience told o old new h stays = h.1

answers_in_rest : (held : Bool) (told : Option posix.Answer) (row : ℕ) (old new : Parts)
    → AnswersIn held told row old new → is_some told ≡ false → new ≡ old
answers_in_rest true told row old new h stays = answers_rest _ _ told row old new h stays
answers_in_rest false told row old new h stays = h.1

-- with the lock that the call holds as it was
same_lock : (w : Whole) (ts : List declared.Thread) (cs : List ThreadClock) (object : Option ℕ)
    → with_lock (run_at w ts cs) object (lock_held (run_at w ts cs) object) (joined ts cs) w.rows ≡ run_at w ts cs
same_lock w ts cs None = refl
same_lock w ts cs (Some n) = ap (λ (ls : List DetLock). record w { threads = joined ts cs; objects = ls })
    (set-get_or w.objects n new_lock)

pub answer_rests : (w : Whole) (ts : List declared.Thread) (cs ds : List ThreadClock) (rows : List HistoryRow)
    (i place : ℕ) (object : Option ℕ) (x v : declared.Thread) (own l : DetLock) (told : Option posix.Answer)
    → Item ts cs i x v ds → own ≡ lock_held (run_at w ts cs) object
    → ((table : Stored) → Answers told i place (parts (timed x (clock_at cs i)) own table w.rows)
    (parts (timed v (clock_at ds i)) l table rows))
    → Rests (is_some told) (run_at w ts cs) (with_lock (run_at w ts cs) object l (joined (set ts i v) ds) rows)
answer_rests w ts cs ds rows i place object x v own l told h own_is answered =
    let z = run_at w ts cs in
    let new = with_lock z object l (joined (set ts i v) ds) rows in
    rests_by (is_some told) z new (λ stays.
    let same = answers_in_rest _ told place (parts (timed x (clock_at cs i)) own w.table w.rows)
    (parts (timed v (clock_at ds i)) l w.table rows) (answered w.table) stays in
    ap (λ (us : List Thread). with_lock z object l us rows)
    (same_threads ts cs ds i x v h (ap (λ (p : Parts). p.thread) same))
    ∙ ap (λ (p : Parts). with_lock z object p.lock (joined ts cs) p.rows) same
    ∙ ap (λ (k : DetLock). with_lock z object k (joined ts cs) w.rows) own_is
    ∙ same_lock w ts cs object)

pub conclude_rests : (w : Whole) (ts : List declared.Thread) (cs ds : List ThreadClock) (i n : ℕ) (o : Outing)
    (x v : declared.Thread) (before own l : DetLock) (later : Stored) (rows : List HistoryRow)
    (told : Option posix.Answer)
    → Item ts cs i x v ds → before ≡ get_or w.objects n new_lock
    → AnswersOutside w.settings.patience told i o (outside_parts (timed x (clock_at cs i)) before w.lock w.table w.rows)
    (outside_parts (timed v (clock_at ds i)) own l later rows)
    → Rests (is_some told) (run_at w ts cs)
    (record w {
      threads = joined (set ts i v) ds;
      lock = l;
      objects = set w.objects n own;
      table = later;
      rows = rows;
    })
conclude_rests w ts cs ds i n o x v before own l later rows told h before_is answered =
    let z = run_at w ts cs in
    let new : Whole = record w {
      threads = joined (set ts i v) ds;
      lock = l;
      objects = set w.objects n own;
      table = later;
      rows = rows;
    } in
    rests_by (is_some told) z new (λ stays.
    let same = concludes_rest _ w.settings.patience told o
    (outside_parts (timed x (clock_at cs i)) before w.lock w.table w.rows)
    (outside_parts (timed v (clock_at ds i)) own l later rows) answered stays in
    ap (λ (us : List Thread). record w {
      threads = us;
      lock = l;
      objects = set w.objects n own;
      table = later;
      rows = rows;
    }) (same_threads ts cs ds i x v h (ap (λ (p : OutsideParts). p.thread) same))
    ∙ ap (λ (p : OutsideParts). record w {
      threads = joined ts cs;
      lock = p.lock;
      objects = set w.objects n p.object;
      table = p.table;
      rows = p.rows;
    }) same
    ∙ ap (λ (ls : List DetLock). record w { threads = joined ts cs; objects = ls }) (ap (set w.objects n) before_is
    ∙ set-get_or w.objects n new_lock))

-- ## Attempts

-- an attempt that was not made changes nothing
not_in_time : (T R : Type 0) (room made : Bool) → IfInTime room made T R → made ≡ false → R
not_in_time T R true made h stays = absurd (true≢false (sym h.0 ∙ stays))
not_in_time T R false made h stays = h.1

tries_rest : (p : Phase) (patience : ℕ) (made : Bool) (i : ℕ) (old new : Parts) → TriesIn patience p made i old new
    → made ≡ false → new ≡ old
tries_rest (phase.WantsTable call carried) patience made i old new h stays =
    not_in_time _ _ _ made h stays
tries_rest p patience made i old new h stays = h.1

pub try_rests : (w : Whole) (ts : List declared.Thread) (cs ds : List ThreadClock) (i : ℕ) (x v : declared.Thread)
    (l : DetLock) (later : Stored) (rows : List HistoryRow) (r : Result Bool AllocError) → Item ts cs i x v ds
    → IfOk r (λ made. Tries w.settings.patience made i (parts (timed x (clock_at cs i)) w.lock w.table w.rows)
    (parts (timed v (clock_at ds i)) l later rows))
    → IfOk r (λ made. Rests made (run_at w ts cs)
    (record w { threads = joined (set ts i v) ds; lock = l; table = later; rows = rows }))
try_rests w ts cs ds i x v l later rows r h tried =
    let z = run_at w ts cs in
    let new : Whole = record w { threads = joined (set ts i v) ds; lock = l; table = later; rows = rows } in
    let P : Bool → Type 0 = λ made. Tries w.settings.patience made i
    (parts (timed x (clock_at cs i)) w.lock w.table w.rows) (parts (timed v (clock_at ds i)) l later rows) in
    let Q : Bool → Type 0 = λ made. Rests made z new in
    IfOk-weaker r P Q (λ made a. rests_by made z new (λ stays.
    let same = tries_rest x.phase w.settings.patience made i (parts (timed x (clock_at cs i)) w.lock w.table w.rows)
    (parts (timed v (clock_at ds i)) l later rows) a stays in
    ap (λ (us : List Thread). record w { threads = us; lock = l; table = later; rows = rows })
    (same_threads ts cs ds i x v h (ap (λ (p : Parts). p.thread) same))
    ∙ ap (λ (p : Parts). record w { threads = joined ts cs; lock = p.lock; table = p.table; rows = p.rows }) same))
    tried

reaches_rest : (p : Phase) (patience : ℕ) (made : Bool) (i : ℕ) (lock now : DetLock) (old new : Parts)
    → ReachesIn patience p made i lock now old new → made ≡ false → (now ≡ lock) × (new ≡ old)
reaches_rest (phase.WantsObject call carried clock object) patience made i lock now old new h stays =
    not_in_time _ _ _ made h stays
reaches_rest p patience made i lock now old new h stays = (h.1, h.2)

pub reach_rests : (w : Whole) (ts : List declared.Thread) (cs ds : List ThreadClock) (i n : ℕ) (x v : declared.Thread)
    (l before own : DetLock) (later : Stored) (rows : List HistoryRow) (r : Result Bool AllocError)
    → Item ts cs i x v ds
    → before ≡ get_or w.objects n new_lock
    → IfOk r (λ made. Reaches w.settings.patience made i before own
    (parts (timed x (clock_at cs i)) w.lock w.table w.rows) (parts (timed v (clock_at ds i)) l later rows))
    → IfOk r (λ made. Rests made (run_at w ts cs)
    (record w {
      threads = joined (set ts i v) ds;
      lock = l;
      objects = set w.objects n own;
      table = later;
      rows = rows;
    }))
reach_rests w ts cs ds i n x v l before own later rows r h before_is tried =
    let z = run_at w ts cs in
    let new : Whole = record w {
      threads = joined (set ts i v) ds;
      lock = l;
      objects = set w.objects n own;
      table = later;
      rows = rows;
    } in
    let P : Bool → Type 0 = λ made. Reaches w.settings.patience made i before own
    (parts (timed x (clock_at cs i)) w.lock w.table w.rows) (parts (timed v (clock_at ds i)) l later rows) in
    let Q : Bool → Type 0 = λ made. Rests made z new in
    IfOk-weaker r P Q (λ made a. rests_by made z new (λ stays.
    let same = reaches_rest x.phase w.settings.patience made i before own
    (parts (timed x (clock_at cs i)) w.lock w.table w.rows) (parts (timed v (clock_at ds i)) l later rows) a
    stays in
    ap (λ (us : List Thread). record w {
      threads = us;
      lock = l;
      objects = set w.objects n own;
      table = later;
      rows = rows;
    }) (same_threads ts cs ds i x v h (ap (λ (p : Parts). p.thread) same.1))
    ∙ ap (λ (p : Parts). record w {
      threads = joined ts cs;
      lock = p.lock;
      objects = set w.objects n own;
      table = p.table;
      rows = p.rows;
    }) same.1
    ∙ ap (λ (ls : List DetLock). record w { threads = joined ts cs; objects = ls })
    (ap (set w.objects n) (same.0 ∙ before_is) ∙ set-get_or w.objects n new_lock))) tried
