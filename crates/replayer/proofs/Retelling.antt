-- What the replay of a log gives of a run of real threads that wrote it, or that was made by it.
use Rattle.machine.specs.Records.{as_logged}
use Rattle.std.proofs.Common.{◌≡◌, ℕ, zero, suc, ◌+◌, ◌<◌, ◌≤◌, true, false, List, [], ◌∷◌, ◌++◌, length, map, get_or}
use Rattle.std.proofs.Common.{slice_get, Option, Some, None, Result, Ok, Err, refl, sym, ap, ap₂, ◌∙◌, subst, ⊎_elim}
use Rattle.std.proofs.Common.{inl, inr, arith}
use Rattle.std.proofs.lemmas.Bool.{false≢true, and_parts, cases_lt}
use Rattle.std.proofs.lemmas.List.{append-nil, get_or_past, length-append, length-map}
use Rattle.std.proofs.lemmas.Option.{none-some, slice_get-get_or}
use Rattle.call_machine.specs.Diverging.{diverging}
use Rattle.call_machine.specs.History.{Past, transcripts_of}
use Rattle.call_machine.specs.Plain.{IsPlainRun, has_ended, plain_of, stop_by, stop_of, stuck_in}
use Rattle.call_machine.specs.Setup.{Inputs, first_state, outcomes_of, setup_of}
use Rattle.call_machine.specs.declared.plain.Plain.{Plain}
use Rattle.input_log.specs.Fronts.{IsFront}
use Rattle.input_log.specs.Grammar.{IsLog}
use Rattle.input_log.specs.Outcomes as logged
use Rattle.input_log.specs.declared.log.LogText.{LogText}
use Rattle.input_log.specs.declared.log.Record.{Record}
use Rattle.lock_machine.specs.Shows.{PhaseShows}
use Rattle.lock_machine.specs.Threads.{Thread}
use Rattle.lock_machine.specs.Conditions.{setup_under}
use Rattle.lock_machine.specs.Diverging.{diverging_in}
use Rattle.lock_machine.specs.Views.{no_thread}
use Rattle.lock_machine.specs.Whole.{thread_at}
use Rattle.lock_machine.specs.declared.thread.Phase.{Phase}
use Rattle.lock_machine.specs.declared.thread.Phase.TheVariants as phase
use Rattle.lock_model.specs.History.{IsPrefixOf}
use Rattle.lock_model.specs.Laws.{Begins, HaveEnded}
use Rattle.sequential_object.specs.Numbers.{first_world}
use Rattle.lock_model.specs.Rows.{shown}
use Rattle.lock_model.specs.Runs.{own, Supplies}
use Rattle.lock_model.specs.Schedule.{EndsIn, IsOver, plain_run}
use Rattle.lock_model.specs.State as lock
use Rattle.lock_model.specs.State.{State, live_clock, live_clock_in, live_clocks, nobody, thread_of}
use Rattle.lock_model.specs.State.Phase.{Ended, Outside}
use Rattle.lock_model.specs.Transcripts as of_rows
use Rattle.machine.specs.Finishing.{have_ended, is_ended}
use Rattle.machine.specs.Kept.{IsKept}
use Rattle.machine.specs.Runs.{terms_with}
use Rattle.machine.specs.Shown.{Shown}
use Rattle.machine.specs.declared.stop.Stop.{Stop}
use Rattle.machine.specs.declared.stop.Stop.TheVariants as stop
use Rattle.logical_clocks.specs.TurnOrder.{has_turn, has_turn_at, turn_holder}
use Rattle.posix_terms.specs.declared.limits.TheConstants.Limits as limit
use Rattle.posix_terms.specs.declared.errno.Errno.TheVariants as errno
use Rattle.posix_terms.specs.declared.outcome.Given.{Given}
use Rattle.posix_terms.specs.declared.outcome.OutKind.TheVariants as kind
use Rattle.posix_terms.specs.declared.outcome.Outcome.TheVariants as outcome
use Rattle.posix_terms.specs.declared.transcript.Row.{Row}
use Rattle.thread_scripts.specs.declared.line.Line.{Line}
use Rattle.replayer.specs.Outcomes.{first_unused}
use Rattle.recorder.specs.Recorded.{AreBeginnings}
use Rattle.replayer.specs.Replay.{Replays, Tells, ended, inputs_of}
use Rattle.replayer.specs.Threads.{IsBeginningOf, IsRetold, came_to_its_end, seen_in}
use Rattle.replayer.specs.declared.fault.ReplayFault.{ReplayFault}
use Rattle.replayer.specs.declared.fault.ReplayFault.TheVariants as replay_fault
use Rattle.replayer.specs.declared.replayed.Replayed.{Replayed}
use Rattle.replayer.proofs.ByThread.{came_counted, none_unused, number_counted, transcripts_at, transcripts_length}
use Rattle.replayer.proofs.CameAgain.{came_supplied, diverged_outside, over_at, plain_count}
use Rattle.replayer.proofs.Diverged.{diverged_stays, diverging_is, misfit, plain_end}
use Rattle.replayer.proofs.Following.{IsSupplied, begins_plain}
use Rattle.replayer.specs.Known.{KnownOfThreads}
use Rattle.replayer.proofs.Fronts.{settings_fit, threads_fit}
use Rattle.replayer.proofs.OneFront.{IsToldBy, told_or_memory}
use Rattle.replayer.proofs.OwnLog.{beginnings}

abbrev no_given : Given
no_given = record { kind = kind.Open; clock = None; outcome = outcome.Fail errno.EIO }

-- ## Prefixes

pub get_in_prefix : {A : Type 0} (xs ys : List A) (k : ℕ) (x : A) → IsPrefixOf xs ys → slice_get xs k ≡ Some x
    → slice_get ys k ≡ Some x
get_in_prefix xs ys k x h at = subst (λ l. slice_get l k ≡ Some x) h.1 (in_front xs h.0 k at)
  where
    in_front : (l m : List _) (j : ℕ) → slice_get l j ≡ Some x → slice_get (l ++ m) j ≡ Some x
    in_front [] m j e = absurd (none-some x e)
    in_front (y ∷ l) m zero e = e
    in_front (y ∷ l) m (suc j) e = in_front l m j e

prefix_length : {A : Type 0} (xs ys : List A) → IsPrefixOf xs ys → length xs ≤ length ys
prefix_length xs ys h = let whole : length xs + length h.0 ≡ length ys = sym (length-append xs h.0) ∙ ap length h.1 in
    omega (arith, whole)

-- ## What came

-- in the plain run too what came for a thread are the outcomes of its rows
pub rows_came : KnownOfThreads → (input : Inputs) (last : State) → EndsIn (setup_of input) (first_state input) last
    → (i : ℕ) → (thread_of last i).came ≡ of_rows.outcomes_of i last.rows
rows_came known input last ends i =
    subst (λ (z : State). (thread_of z i).came ≡ of_rows.outcomes_of i z.rows) ends.reached
    (known.plain.rows (setup_of input) (length input.scripts) limit.OBJECTS first_world
    (plain_run (setup_of input) ends.count (first_state input))
    (known.plain.arises (setup_of input) (length input.scripts) limit.OBJECTS first_world ends.count) i)

-- each was supplied
supplied_last : KnownOfThreads → (input : Inputs) (last : State) → EndsIn (setup_of input) (first_state input) last
    → (i k : ℕ) (o : Given) → slice_get (thread_of last i).came k ≡ Some o → Supplies (outcomes_of input i) k o
supplied_last known input last ends i k o h =
    came_supplied known.plain (setup_of input) (length input.scripts) limit.OBJECTS first_world ends.count i k o
    (ap (λ (z : State). slice_get (thread_of z i).came k) ends.reached ∙ h)

-- the plain run may be taken further than its end
past_end : (input : Inputs) (last : State) (ends : EndsIn (setup_of input) (first_state input) last) (k : ℕ)
    → plain_run (setup_of input) (k + ends.count) (first_state input) ≡ last
past_end input last ends k = over_at (setup_of input) (first_state input) ends.count k
    (subst (IsOver (setup_of input)) (sym ends.reached) ends.over) ∙ ends.reached

-- a thread that diverged stands at the end where it diverged, and what it lacks is there
record IsLost (input : Inputs) (last : State) (i : ℕ) : Type 0 where
  outside : (job : lock.Job) × ((thread_of last i).phase ≡ Outside job)
  next : (g : Given) × (slice_get (outcomes_of input i) (length (thread_of last i).came) ≡ Some g)

lost_at : KnownOfThreads → (input : Inputs) (last : State) → EndsIn (setup_of input) (first_state input) last
    → (k i : ℕ) → diverging (setup_of input) (plain_run (setup_of input) k (first_state input)) ≡ Some i
    → IsLost input last i
lost_at known input last ends k i h =
    let setup = setup_of input in
    let s = plain_run setup k (first_state input) in
    let stays : thread_of last i ≡ thread_of s i =
    ap (λ (z : State). thread_of z i) (sym (past_end input last ends k))
    ∙ diverged_stays known setup (length input.scripts) limit.OBJECTS first_world k ends.count i h in
    let out = diverged_outside setup s i h in
    let g = misfit setup out.0 (slice_get (outcomes_of input i) (length (thread_of s i).came))
    (subst (λ (p : lock.Phase). diverging_in setup p (slice_get (outcomes_of input i) (length (thread_of s i).came))
    ≡ true) out.1 (diverging_is setup s i h)) in
    record {
      outside = (out.0, ap (λ (t : lock.Thread). t.phase) stays ∙ out.1);
      next = (g.0, ap (λ (t : lock.Thread). slice_get (outcomes_of input i) (length t.came)) stays ∙ g.1);
    }

-- ## Where all threads have ended

ended_at : (threads : List Thread) (i : ℕ) (d : Thread) → have_ended threads ≡ true → i < length threads
    → (get_or threads i d).phase ≡ phase.Ended
ended_at [] i d h l = absurd (omega arith)
ended_at (t ∷ threads) zero d h l = is t.phase (and_parts (is_ended t.phase) (have_ended threads) h).0
  where
    is : (p : Phase) → is_ended p ≡ true → p ≡ phase.Ended
    is phase.Ended e = refl
    is p e = absurd (false≢true e)
ended_at (t ∷ threads) (suc i) d h l = ended_at threads i d (and_parts (is_ended t.phase) (have_ended threads) h).1
    (omega (arith, l))

pub all_ended : (D : Type 0) (m : Shown D) (kept : IsKept D m) → have_ended m.whole.threads ≡ true → HaveEnded kept.end
all_ended D m kept h i = ⊎_elim inside past (cases_lt i (length m.whole.threads))
  where
    inside : i < length m.whole.threads → (thread_of kept.end i).phase ≡ Ended
    inside l =
        let P : Phase → Type 0 = λ p. PhaseShows (terms_with m.whole (own kept.end)) i kept.end.rows
        (thread_at m.whole i) (thread_of kept.end i) p in
        subst P (ended_at m.whole.threads i _ h l) (kept.ends.1.threads i).phase

    past : length m.whole.threads ≤ i → (thread_of kept.end i).phase ≡ Ended
    past l = ap (λ (t : lock.Thread). t.phase)
        (get_or_past kept.end.threads i nobody (subst (λ (n : ℕ). n ≤ i) (sym kept.ends.1.count) l))

clock_at : (threads : List lock.Thread) (i : ℕ)
    → get_or (map live_clock threads) i None ≡ live_clock (get_or threads i nobody)
clock_at [] i = refl
clock_at (t ∷ threads) zero = refl
clock_at (t ∷ threads) (suc i) = clock_at threads i

no_turn_at : (clocks : List (Option ℕ)) (i : ℕ) → get_or clocks i None ≡ None → has_turn clocks i ≡ false
unfolding has_turn
no_turn_at clocks i h = ap (has_turn_at clocks i) h

-- nobody has the turn
no_turn : KnownOfThreads → (s : State) → HaveEnded s → turn_holder (live_clocks s) ≡ None
no_turn known s h = by (turn_holder (live_clocks s)) refl
  where
    by : (o : Option ℕ) → turn_holder (live_clocks s) ≡ o → o ≡ None
    by None e = refl
    by (Some i) e =
        let ended_there : get_or (live_clocks s) i None ≡ None = clock_at s.threads i
        ∙ ap (λ (p : lock.Phase). live_clock_in p (thread_of s i).clock) (h i) in
        absurd (false≢true (sym (no_turn_at (live_clocks s) i ended_there) ∙ (known.holder (live_clocks s) i).0 e))

-- and no thread diverged
nowhere : KnownOfThreads → (input : Inputs) (last : State) → EndsIn (setup_of input) (first_state input) last
    → HaveEnded last → (k : ℕ) → diverging (setup_of input) (plain_run (setup_of input) k (first_state input)) ≡ None
nowhere known input last ends over k =
    by (diverging (setup_of input) (plain_run (setup_of input) k (first_state input))) refl
  where
    by : (o : Option ℕ) → diverging (setup_of input) (plain_run (setup_of input) k (first_state input)) ≡ o → o ≡ None
    by None h = refl
    by (Some i) h =
        let lost = lost_at known input last ends k i h in
        absurd (false≢true (ap has_ended (sym lost.outside.1 ∙ over i)))

-- ## What each thread saw

-- of no rows it is nothing, which begins all
pub nothing_begins : KnownOfThreads → (input : Inputs) (last : State) → EndsIn (setup_of input) (first_state input) last
    → AreBeginnings (transcripts_of (length input.scripts) []) (seen_in last)
nothing_begins known input last ends =
    let n = length input.scripts in
    let more : length last.threads ≡ n = ap (λ (z : State). length z.threads) (sym ends.reached)
    ∙ plain_count known.plain (setup_of input) n limit.OBJECTS first_world ends.count in
    record {
      count = transcripts_length n []
          ∙ (sym more ∙ sym (transcripts_length (length last.threads) (map shown last.rows)));
      each = λ i. subst (λ xs. IsPrefixOf xs (get_or (seen_in last) i [])) (sym (none_seen i))
          (get_or (seen_in last) i [], refl);
    }
  where
    none_seen : (i : ℕ) → get_or (transcripts_of (length input.scripts) []) i [] ≡ []
    none_seen i =
        ⊎_elim
        (λ (l : i < length input.scripts). transcripts_at (length input.scripts) i [] l)
        (λ (l : length input.scripts ≤ i). get_or_past (transcripts_of (length input.scripts) []) i []
        (let long = transcripts_length (length input.scripts) [] in omega (arith, long, l)))
        (cases_lt i (length input.scripts))

-- in the run it saw a beginning of what it sees in the plain run
pub seen_begins : KnownOfThreads → (D : Type 0) (m : Shown D) (kept : IsKept D m) (input : Inputs) (last : State)
    → IsSupplied D m kept.end input → EndsIn (setup_of input) (first_state input) last
    → AreBeginnings (transcripts_of (length input.scripts) m.whole.rows) (seen_in last)
seen_begins known D m kept input last h ends =
    let s = kept.end in
    let n = length input.scripts in
    let count : length s.threads ≡ n = kept.ends.1.count ∙ h.threads in
    let more : length last.threads ≡ n = ap (λ (z : State). length z.threads) (sym ends.reached)
    ∙ plain_count known.plain (setup_of input) n limit.OBJECTS first_world ends.count in
    subst (λ xs. AreBeginnings xs (seen_in last)) (ap₂ transcripts_of count kept.ends.1.rows)
    (beginnings n s last count more (begins_plain known D m kept input last h ends))

asked_shown : (D : Type 0) (m : Shown D) (kept : IsKept D m)
    → map (λ (t : lock.Thread). t.asked) kept.end.threads ≡ map (λ (t : Thread). t.asked) m.whole.threads
asked_shown D m kept = same_asked kept.end.threads m.whole.threads kept.ends.1.count
    (λ i. (kept.ends.1.threads i).asked)
  where
    same_asked : (us : List lock.Thread) (ts : List Thread) → length us ≡ length ts
        → ((i : ℕ) → (get_or us i nobody).asked ≡ (let t : Thread = get_or ts i no_thread in t.asked))
        → map (λ (t : lock.Thread). t.asked) us ≡ map (λ (t : Thread). t.asked) ts
    same_asked [] [] e h = refl
    same_asked [] (t ∷ ts) e h = absurd (omega (arith, e))
    same_asked (u ∷ us) [] e h = absurd (omega (arith, e))
    same_asked (u ∷ us) (t ∷ ts) e h = ap₂ ◌∷◌ (h 0) (same_asked us ts (omega (arith, e)) (λ i. h (suc i)))

-- where the plain run ends in the same state, it shows the same
pub shown_whole : (D : Type 0) (m : Shown D) (kept : IsKept D m) (input : Inputs) (past : Past) (count : ℕ)
    (last : State)
    → length m.whole.threads ≡ length input.scripts → past.rows ≡ m.whole.rows
    → past.asked ≡ map (λ (t : Thread). t.asked) m.whole.threads → kept.end ≡ last
    → ended (plain_of input count last) None ≡ came_to_its_end (transcripts_of (length input.scripts) past.rows) past
shown_whole D m kept input past count last threads rows asked same =
    let there : map shown last.rows ≡ past.rows = ap (λ (z : State). map shown z.rows) (sym same)
    ∙ (kept.ends.1.rows ∙ sym rows) in
    let steps : map (λ (t : lock.Thread). t.asked) last.threads ≡ past.asked =
    ap (λ (z : State). map (λ (t : lock.Thread). t.asked) z.threads) (sym same)
    ∙ (asked_shown D m kept ∙ sym asked) in
    let count_is : length last.threads ≡ length input.scripts = ap (λ (z : State). length z.threads) (sym same)
    ∙ (kept.ends.1.count ∙ threads) in
    ap₂ (λ ts (p : Past). Ok (record { transcripts = ts; history = p })) (ap₂ transcripts_of count_is there)
    (ap₂ (λ rs xs. record { rows = rs; asked = xs }) there steps)

-- ## What is told

-- of a plain run that did not diverge: no less than was seen
told_more : (log : LogText) (scripts : List (List Line)) (count : ℕ) (last : State) (seen : List (List Row))
    (result : Result Replayed ReplayFault) (o : Option ℕ)
    → AreBeginnings seen (seen_in last)
    → Tells log (plain_of (inputs_of log scripts) count last) (stop_by last o) result
    → IsBeginningOf log scripts seen result
told_more log scripts count last seen result None begins tells = subst (IsBeginningOf log scripts seen) (sym tells)
    (by_unused (first_unused log.header.threads log.records (map shown last.rows)))
  where
    by_unused : (u : Option (ℕ × ℕ))
        → IsBeginningOf log scripts seen (ended (plain_of (inputs_of log scripts) count last) u)
    by_unused None = begins
    by_unused (Some (thread, number)) = inl begins
told_more log scripts count last seen result (Some i) begins tells = by_phase (thread_of last i).phase tells
  where
    by_phase : (p : lock.Phase) → Tells log (plain_of (inputs_of log scripts) count last) (Some (stuck_in p i)) result
        → IsBeginningOf log scripts seen result
    by_phase (Outside job) e = subst (IsBeginningOf log scripts seen) (sym e) begins
    by_phase p e = subst (IsBeginningOf log scripts seen) (sym e) begins

-- and where each record was used, of a run that was stopped
told_all : (log : LogText) (scripts : List (List Line)) (count : ℕ) (last : State) (seen : List (List Row))
    (past : Past) (stopped : Stop) (result : Result Replayed ReplayFault) (o : Option ℕ)
    → first_unused log.header.threads log.records (map shown last.rows) ≡ None → AreBeginnings seen (seen_in last)
    → Tells log (plain_of (inputs_of log scripts) count last) (stop_by last o) result
    → IsRetold seen past (Some stopped) result
told_all log scripts count last seen past stopped result None used begins tells =
    subst (IsRetold seen past (Some stopped))
    (sym (tells ∙ ap (ended (plain_of (inputs_of log scripts) count last)) used)) begins
told_all log scripts count last seen past stopped result (Some i) used begins tells =
    by_phase (thread_of last i).phase tells
  where
    by_phase : (p : lock.Phase) → Tells log (plain_of (inputs_of log scripts) count last) (Some (stuck_in p i)) result
        → IsRetold seen past (Some stopped) result
    by_phase (Outside job) e = subst (IsRetold seen past (Some stopped)) (sym e) begins
    by_phase p e = subst (IsRetold seen past (Some stopped)) (sym e) begins

-- ## The log that the run wrote

-- what it supplies came in the run
abbrev pub IsBack : State → Inputs → Type 0
IsBack s input = (i k : ℕ) (g : Given) → slice_get (outcomes_of input i) k ≡ Some g → k < length (thread_of s i).came

-- a run came to this state, which begins the plain run by what its own log supplies
pub record IsRetraced (input : Inputs) (s : State) : Type 0 where
  pub begins : (last : State) → EndsIn (setup_of input) (first_state input) last → Begins s last
  pub rows : (i : ℕ) → (thread_of s i).came ≡ of_rows.outcomes_of i s.rows
  pub back : IsBack s input

pub retraced : KnownOfThreads → (D : Type 0) (m : Shown D) (kept : IsKept D m) (input : Inputs)
    → IsSupplied D m kept.end input → IsBack kept.end input → IsRetraced input kept.end
retraced known D m kept input supplied back =
    record {
      begins = λ last ends. begins_plain known D m kept input last supplied ends;
      rows = λ i. known.plain.rows (setup_under (terms_with m.whole (own kept.end))) (length m.whole.threads)
          limit.OBJECTS first_world kept.end kept.ends.0 i;
      back = back;
    }

-- what came in the run comes first in the plain run
came_begins : KnownOfThreads → (input : Inputs) (s last : State) → IsRetraced input s
    → EndsIn (setup_of input) (first_state input) last
    → (i : ℕ) → IsPrefixOf (thread_of s i).came (thread_of last i).came
came_begins known input s last h ends i =
    let begins = h.begins last ends in
    subst (λ xs. IsPrefixOf xs (thread_of last i).came) (sym (h.rows i))
    (subst (λ ys. IsPrefixOf (of_rows.outcomes_of i s.rows) ys) (sym (rows_came known input last ends i))
    (begins.outcomes i))

-- so the plain run diverges nowhere
pub straight : KnownOfThreads → (input : Inputs) (s : State) → IsRetraced input s → (k : ℕ)
    → diverging (setup_of input) (plain_run (setup_of input) k (first_state input)) ≡ None
straight known input s retraced k = by (diverging (setup_of input) (plain_run (setup_of input) k (first_state input)))
    refl
  where
    by : (o : Option ℕ) → diverging (setup_of input) (plain_run (setup_of input) k (first_state input)) ≡ o → o ≡ None
    by None h = refl
    by (Some i) h =
        let found = plain_end known input in
        let last = found.0 in
        let ends = found.1 in
        let lost = lost_at known input last ends k i h in
        let n = length (thread_of last i).came in
        let few = retraced.back i n lost.next.0 lost.next.1 in
        let more = prefix_length (thread_of s i).came (thread_of last i).came
        (came_begins known input s last retraced ends i) in
        absurd (omega (arith, few, more))

whole_prefix : {A : Type 0} (xs ys : List A) → IsPrefixOf xs ys → length ys ≤ length xs → ys ≡ xs
whole_prefix xs ys ([], is) short = sym is ∙ append-nil xs
whole_prefix xs ys (z ∷ zs, is) short = absurd (omega (arith, short, length-append xs (z ∷ zs), ap length is))

-- and what comes in it is just what came in the run
pub same_came : KnownOfThreads → (input : Inputs) (s last : State) → IsRetraced input s
    → EndsIn (setup_of input) (first_state input) last
    → (i : ℕ) → (thread_of last i).came ≡ (thread_of s i).came
same_came known input s last retraced ends i =
    let xs = (thread_of last i).came in
    let n = length (thread_of s i).came in
    whole_prefix (thread_of s i).came xs (came_begins known input s last retraced ends i)
    (⊎_elim
    (λ (l : n < length xs).
    let there : slice_get xs n ≡ Some (get_or xs n no_given) = slice_get-get_or xs n no_given l in
    let supplied = supplied_last known input last ends i n (get_or xs n no_given) there in
    let few = retraced.back i n supplied.0 supplied.1 in
    absurd (omega (arith, few)))
    (λ (l : length xs ≤ n). l)
    (cases_lt n (length xs)))

-- so it uses each record, where a thread has as many as outcomes came for it
pub all_used : KnownOfThreads → (records : List Record) (input : Inputs) (s last : State) → IsRetraced input s
    → EndsIn (setup_of input) (first_state input) last
    → ((i : ℕ) → length (thread_of s i).came ≡ length (logged.outcomes_of i records))
    → (threads : ℕ) → first_unused threads records (map shown last.rows) ≡ None
all_used known records input s last retraced ends as_many threads =
    none_unused threads records (map shown last.rows)
    (λ i. came_counted i last.rows
    ∙ (ap length (sym (rows_came known input last ends i))
    ∙ (ap length (same_came known input s last retraced ends i) ∙ (as_many i ∙ sym (number_counted i records)))))

-- as many as its own log has
pub kept_as_many : (D : Type 0) (m : Shown D) (kept : IsKept D m) (i : ℕ)
    → length (thread_of kept.end i).came ≡ length (logged.outcomes_of i m.log.records)
kept_as_many D m kept i = sym (length-map (thread_of kept.end i).came (as_logged m.whole.settings.version))
    ∙ ap length (kept.came i)

-- ## The law

-- the plain run of a replay that came by such a log
record IsOwnRun (log : LogText) (scripts : List (List Line)) (result : Result Replayed ReplayFault) : Type 0 where
  count : ℕ
  last : State
  ends : EndsIn (setup_of (inputs_of log scripts)) (first_state (inputs_of log scripts)) last
  tells : Tells log (plain_of (inputs_of log scripts) count last) (stop_by last (turn_holder (live_clocks last))) result

own_run : (log : LogText) (scripts : List (List Line)) (result : Result Replayed ReplayFault)
    (h : IsToldBy log scripts result) → let run = h.run in diverging (setup_of (inputs_of log scripts)) run.last ≡ None
    → IsOwnRun log scripts result
own_run log scripts result h none =
    let run = h.run in
    let input = inputs_of log scripts in
    record {
      count = run.count;
      last = run.last;
      ends = record { count = run.count; reached = run.goes.reached; over = run.ends none };
      tells =
          subst (λ (o : Option ℕ). Tells log (plain_of input run.count run.last) (stop_of run.last o) result) none
          (subst (λ (p : Plain). Tells log p p.stop result) run.shows h.tells);
    }

-- a run that wrote this log, and its replay
pub retold_by : KnownOfThreads
    → (D : Type 0) (m : Shown D) (kept : IsKept D m) (log : LogText) (scripts : List (List Line)) (past : Past)
    (told : Option Stop) (text : List ℕ) (result : Result Replayed ReplayFault)
    → IsFront text log → log.header.threads ≡ length scripts → log.records ≡ m.log.records
    → IsSupplied D m kept.end (inputs_of log scripts) → IsBack kept.end (inputs_of log scripts)
    → past.rows ≡ m.whole.rows → past.asked ≡ map (λ (t : Thread). t.asked) m.whole.threads
    → (told ≡ None → have_ended m.whole.threads ≡ true)
    → Replays text scripts result → IsRetold (transcripts_of (length scripts) past.rows) past told result
retold_by known D m kept log scripts past told text result front threads records supplied back rows asked over replays =
    told_or_memory known.plain text scripts log result
    (λ r. IsRetold (transcripts_of (length scripts) past.rows) past told r) front threads tt
    (λ h.
    let run = h.run in
    let input = inputs_of log scripts in
    let none : diverging (setup_of input) run.last ≡ None = subst (λ (z : State). diverging (setup_of input) z ≡ None)
    run.goes.reached (straight known input kept.end (retraced known D m kept input supplied back) run.count) in
    by_stop told over (own_run log scripts result h none))
    replays
  where
    by_stop : (o : Option Stop) → (o ≡ None → have_ended m.whole.threads ≡ true) → IsOwnRun log scripts result
        → IsRetold (transcripts_of (length scripts) past.rows) past o result
    by_stop None over own =
        let input = inputs_of log scripts in
        let last = own.last in
        let ends = own.ends in
        let begins = begins_plain known D m kept input last supplied ends in
        let have : HaveEnded kept.end = all_ended D m kept (over refl) in
        let same : kept.end ≡ last = begins.whole have in
        let turn : turn_holder (live_clocks last) ≡ None = no_turn known last (subst HaveEnded same have) in
        let used : first_unused log.header.threads log.records (map shown last.rows) ≡ None =
        subst (λ rs. first_unused log.header.threads rs (map shown last.rows) ≡ None) (sym records)
        (all_used known m.log.records input kept.end last (retraced known D m kept input supplied back) ends
        (kept_as_many D m kept) log.header.threads) in
        let tells : Tells log (plain_of input own.count last) (stop_by last None) result =
        subst (λ (o : Option ℕ). Tells log (plain_of input own.count last) (stop_by last o) result) turn
        own.tells in
        let is : result ≡ came_to_its_end (transcripts_of (length scripts) past.rows) past =
        tells ∙ (ap (ended (plain_of input own.count last)) used
        ∙ shown_whole D m kept input past own.count last supplied.threads rows asked same) in
        subst (IsRetold (transcripts_of (length scripts) past.rows) past None) (sym is) refl
    by_stop (Some stopped) over own =
        let input = inputs_of log scripts in
        let last = own.last in
        let used : first_unused log.header.threads log.records (map shown last.rows) ≡ None =
        subst (λ rs. first_unused log.header.threads rs (map shown last.rows) ≡ None) (sym records)
        (all_used known m.log.records input kept.end last (retraced known D m kept input supplied back) own.ends
        (kept_as_many D m kept) log.header.threads) in
        let begins : AreBeginnings (transcripts_of (length scripts) past.rows) (seen_in last) =
        subst (λ rs. AreBeginnings (transcripts_of (length scripts) rs) (seen_in last)) (sym rows)
        (seen_begins known D m kept input last supplied own.ends) in
        told_all log scripts own.count last (transcripts_of (length scripts) past.rows) past stopped result
        (turn_holder (live_clocks last)) used begins own.tells

-- ## The log that the run was made by

-- what its replay tells is no less than was seen, where that begins the plain run
pub begun_by : KnownOfThreads → (log : LogText) (scripts : List (List Line)) (seen : List (List Row)) (text : List ℕ)
    (result : Result Replayed ReplayFault)
    → IsFront text log → log.header.threads ≡ length scripts
    → ((last : State) → EndsIn (setup_of (inputs_of log scripts)) (first_state (inputs_of log scripts)) last
    → AreBeginnings seen (seen_in last))
    → Replays text scripts result → IsBeginningOf log scripts seen result
begun_by known log scripts seen text result front threads begins replays =
    told_or_memory known.plain text scripts log result (λ r. IsBeginningOf log scripts seen r) front threads tt
    (λ h. let run = h.run in by_run h (diverging (setup_of (inputs_of log scripts)) run.last) refl)
    replays
  where
    by_run : (h : IsToldBy log scripts result) (o : Option ℕ)
        → (let run = h.run in diverging (setup_of (inputs_of log scripts)) run.last ≡ o)
        → IsBeginningOf log scripts seen result
    by_run h None none =
        let own = own_run log scripts result h none in
        told_more log scripts own.count own.last seen result (turn_holder (live_clocks own.last))
        (begins own.last own.ends) own.tells
    by_run h (Some i) some =
        let run = h.run in
        let number = length (thread_of run.last i).came in
        let stops : h.plain.stop ≡ Some (stop.Diverged i number) = ap (λ (p : Plain). p.stop) run.shows
        ∙ ap (stop_of run.last) some in
        let is : result ≡ Err (replay_fault.Diverged i number h.plain.transcripts) =
        subst (λ (o : Option Stop). Tells log h.plain o result) stops h.tells in
        subst (IsBeginningOf log scripts seen) (sym is) (inr (h.plain, run, stops))

-- the plain run by a log that diverges nowhere
pub plain_is : (log : LogText) (scripts : List (List Line)) → IsLog log → log.header.threads ≡ length scripts
    → (last : State) (ends : EndsIn (setup_of (inputs_of log scripts)) (first_state (inputs_of log scripts)) last)
    → ((k : ℕ) → diverging (setup_of (inputs_of log scripts))
    (plain_run (setup_of (inputs_of log scripts)) k (first_state (inputs_of log scripts))) ≡ None)
    → IsPlainRun (inputs_of log scripts) (plain_of (inputs_of log scripts) ends.count last)
plain_is log scripts is threads last ends straight_on =
    record {
      threads = threads_fit log.header (length scripts) log.records is.range threads;
      settings = settings_fit log.header is.range;
      count = ends.count;
      last = last;
      goes = record { reached = ends.reached; straight = λ k l. straight_on k };
      ends = λ e. ends.over;
      shows = refl;
    }

-- where nothing stopped the run and each record was used, the replay comes to its end, with just that
pub whole_by : KnownOfThreads → (D : Type 0) (m : Shown D) (kept : IsKept D m) (log : LogText)
    (scripts : List (List Line)) (past : Past) (text : List ℕ)
    → IsFront text log → log.header.threads ≡ length scripts → IsLog log
    → IsSupplied D m kept.end (inputs_of log scripts)
    → past.rows ≡ m.whole.rows → past.asked ≡ map (λ (t : Thread). t.asked) m.whole.threads
    → have_ended m.whole.threads ≡ true
    → first_unused log.header.threads log.records past.rows ≡ None
    → Replays text scripts (came_to_its_end (transcripts_of (length scripts) past.rows) past)
whole_by known D m kept log scripts past text front threads is supplied rows asked over used =
    let input = inputs_of log scripts in
    let found = plain_end known input in
    let last = found.0 in
    let ends = found.1 in
    let have : HaveEnded kept.end = all_ended D m kept over in
    let same : kept.end ≡ last = (begins_plain known D m kept input last supplied ends).whole have in
    let over_there : HaveEnded last = subst HaveEnded same have in
    let straight_on : (k : ℕ) → diverging (setup_of input) (plain_run (setup_of input) k (first_state input)) ≡ None =
    λ k. nowhere known input last ends over_there k in
    let none : diverging (setup_of input) last ≡ None = subst (λ (z : State). diverging (setup_of input) z ≡ None)
    ends.reached (straight_on ends.count) in
    let stops : stop_of last (diverging (setup_of input) last) ≡ None = ap (stop_of last) none
    ∙ ap (stop_by last) (no_turn known last over_there) in
    let seen : map shown last.rows ≡ past.rows = ap (λ (z : State). map shown z.rows) (sym same)
    ∙ (kept.ends.1.rows ∙ sym rows) in
    let unused : first_unused log.header.threads log.records (map shown last.rows) ≡ None =
    ap (first_unused log.header.threads log.records) seen ∙ used in
    let told : came_to_its_end (transcripts_of (length scripts) past.rows) past
    ≡ ended (plain_of input ends.count last) (first_unused log.header.threads log.records (map shown last.rows))
    =
    sym (ap (ended (plain_of input ends.count last)) unused
    ∙ shown_whole D m kept input past ends.count last supplied.threads rows asked same) in
    let plain : Plain = plain_of input ends.count last in (
      log,
      plain,
      record { front = front; threads = threads; run = plain_is log scripts is threads last ends straight_on },
      subst (λ (o : Option Stop). Tells log plain o (came_to_its_end (transcripts_of (length scripts) past.rows) past))
          (sym stops) told,
    )
