-- A run of real threads follows the scripts that its actors mean, and so begins the plain run of these.
use Rattle.std.proofs.Common.{◌≡◌, ℕ, zero, suc, ◌+◌, Bool, true, false, List, [], ◌∷◌, length, map, filter_map, take}
use Rattle.std.proofs.Common.{drop, get_or, slice_get, slice_index_or, Option, Some, None, if◌then◌else◌, ◌==◌, refl}
use Rattle.std.proofs.Common.{sym, ap, ap₂, ◌∙◌, subst, arith}
use Rattle.std.proofs.Math.Seq.{take-nil}
use Rattle.std.proofs.lemmas.Option.{none-some, same_Some}
use Rattle.call_machine.specs.Setup.{Inputs, first_state, outcomes_of, script_of, setup_of}
use Rattle.lock_machine.specs.Conditions.{setup_under}
use Rattle.lock_machine.specs.Whole.{settings_in, thread_at}
use Rattle.lock_model.specs.History.{rows_of}
use Rattle.lock_model.specs.Laws.{Begins}
use Rattle.sequential_object.specs.Numbers.{first_world}
use Rattle.lock_model.specs.Programs.{Supply}
use Rattle.lock_model.specs.RealLaws.{real_setup, real_start}
use Rattle.lock_model.specs.Rows.{shown, shown_answer}
use Rattle.lock_model.specs.Runs.{Follows, calls_in, own, Supplies}
use Rattle.lock_model.specs.Schedule.{EndsIn}
use Rattle.thread_scripts.specs.ScriptPrograms.{next_at, reached_after, replies_behind, reply_to, scripted}
use Rattle.lock_model.specs.State.{Row, State, thread_of}
use Rattle.lock_model.specs.Transcripts.{replies_of, reply_in}
use Rattle.sequential_object.specs.declared.turn_end.TurnEnd.{TurnEnd}
use Rattle.sequential_object.specs.declared.turn_end.TurnEnd.TheVariants as turn_end
use Rattle.machine.specs.Kept.{IsKept}
use Rattle.machine.specs.Runs.{terms_with}
use Rattle.machine.specs.Shown.{Shown}
use Rattle.posix_terms.specs.Answers.{reply_of}
use Rattle.posix_terms.specs.declared.limits.TheConstants.Limits as limit
use Rattle.posix_terms.specs.declared.outcome.Given.{Given}
use Rattle.posix_terms.specs.declared.reply.Reply.{Reply}
use Rattle.posix_terms.specs.declared.transcript.HistoryRow.{HistoryRow}
use Rattle.posix_terms.specs.declared.transcript.Settings.{Settings}
use Rattle.recorder.specs.Each.{ArePlayedFrom}
use Rattle.thread_scripts.specs.Meaning.{next_of, start_of}
use Rattle.thread_scripts.specs.declared.actor.ScriptState.{ScriptState}
use Rattle.posix_terms.specs.declared.step.Step.{Step}
use Rattle.posix_terms.specs.declared.step.Step.TheVariants as step
use Rattle.thread_scripts.specs.declared.line.Line.{Line}
use Rattle.worker_notes.specs.Agrees.{before, replies_in}
use Rattle.worker_notes.specs.Plays.{Plays, PlaysTo, noted}
use Rattle.replayer.specs.Known.{KnownOfThreads}

-- ## Replies

-- those of the lock machine's rows are those of the history
pub replies_shown : (i : ℕ) (rs : List Row) → replies_of i rs ≡ replies_in i (map shown rs)
replies_shown i [] = refl
replies_shown i (r ∷ rs) = by_test (r.turn.thread == i) r.answer (replies_shown i rs)
  where
    by_answer : (o : Option TurnEnd) → replies_of i rs ≡ replies_in i (map shown rs)
        → filter_map (λ (x : Row). reply_in x.answer) (record r { answer = o } ∷ rows_of i rs)
        ≡ before (reply_of (shown_answer o)) (replies_in i (map shown rs))
    by_answer None h = h
    by_answer (Some (turn_end.Reply x)) h = ap (λ (xs : List Reply). x ∷ xs) h
    by_answer (Some (turn_end.Blocked b)) h = h

    by_test : (b : Bool) (o : Option TurnEnd) → replies_of i rs ≡ replies_in i (map shown rs)
        → filter_map (λ (x : Row). reply_in x.answer) (if b then record r { answer = o } ∷ rows_of i rs
        else rows_of i rs) ≡ (if b then before (reply_of (shown_answer o)) (replies_in i (map shown rs))
        else replies_in i (map shown rs))
    by_test true o h = by_answer o h
    by_test false o h = h

-- ## Steps

-- the first of the steps that were noted, and those after it
first_noted : (s : ScriptState) (last : Option Reply) (x : Step) (asked : List Step) (replies : List Reply)
    (t : ScriptState) → Plays s last (noted (x ∷ asked) replies) t
    → (x ≡ (next_of last s).0) × Plays (next_of last s).1 (reply_to x replies) (noted asked (replies_behind x replies))
    t
first_noted s last (step.Call c) asked [] t h = h
first_noted s last (step.Call c) asked (r ∷ replies) t h = h
first_noted s last (step.Work n) asked replies t h = h
first_noted s last step.End asked replies t h = h

-- the reply to a step is among so many as it has
reply_taken : (x : Step) (asked : List Step) (replies : List Reply)
    → reply_to x (take (calls_in (x ∷ asked)) replies) ≡ reply_to x replies
reply_taken (step.Call c) asked [] = refl
reply_taken (step.Call c) asked (r ∷ replies) = refl
reply_taken (step.Work n) asked replies = refl
reply_taken step.End asked replies = refl

behind_taken : (x : Step) (asked : List Step) (replies : List Reply)
    → replies_behind x (take (calls_in (x ∷ asked)) replies) ≡ take (calls_in asked) (replies_behind x replies)
behind_taken (step.Call c) asked [] = sym (take-nil (calls_in asked))
behind_taken (step.Call c) asked (r ∷ replies) = refl
behind_taken (step.Work n) asked replies = refl
behind_taken step.End asked replies = refl

-- each step that a meaning gives under some replies is that of the script's program
gives_step : (s : ScriptState) (last : Option Reply) (asked : List Step) (replies : List Reply) (t : ScriptState)
    (n : ℕ) (x : Step) → Plays s last (noted asked replies) t → slice_get asked n ≡ Some x
    → next_at (reached_after (record { last = last; state = s }) (take n asked)
    (take (calls_in (take n asked)) replies)) ≡ x
gives_step s last [] replies t n x plays h = absurd (none-some x h)
gives_step s last (y ∷ asked) replies t zero x plays h = sym (first_noted s last y asked replies t plays).0
    ∙ same_Some y x h
gives_step s last (y ∷ asked) replies t (suc n) x plays h =
    let first = first_noted s last y asked replies t plays in
    let next = (next_of last s).1 in
    ap₂ (λ (o : Option Reply) (rs : List Reply).
    next_at (reached_after (record { last = o; state = next }) (take n asked) rs))
    (reply_taken y (take n asked) replies) (behind_taken y (take n asked) replies)
    ∙ gives_step next (reply_to y replies) asked (replies_behind y replies) t n x first.1 h

-- these steps, under these replies, are those of the script
abbrev pub AreSteps : List Line → List Step → List Reply → Type 0
AreSteps script asked replies = (n : ℕ) (x : Step) → slice_get asked n ≡ Some x
    → scripted script (take n asked) (take (calls_in (take n asked)) replies) ≡ Some x

plays_somewhere : (ahead : Bool) (s : ScriptState) (asked : List Step) (replies : List Reply) (t : ScriptState)
    → PlaysTo ahead s (noted asked replies) t → (u : ScriptState) × Plays s None (noted asked replies) u
plays_somewhere false s asked replies t h = (t, h)
plays_somewhere true s asked replies t h = (h.0, h.1)

steps_by : (ahead : Bool) (script : List Line) (s : ScriptState) (asked : List Step) (replies : List Reply)
    (t : ScriptState) → start_of script ≡ s → PlaysTo ahead s (noted asked replies) t → AreSteps script asked replies
steps_by ahead script s asked replies t is h n x at =
    let plays = plays_somewhere ahead (start_of script) asked replies t
    (subst (λ (u : ScriptState). PlaysTo ahead u (noted asked replies) t) (sym is) h) in
    ap Some (gives_step (start_of script) None asked replies plays.0 n x plays.1 at)

no_steps : (script : List Line) (replies : List Reply) → AreSteps script [] replies
no_steps script replies n x at = absurd (none-some x at)

-- the steps that each thread asked are those of its script
pub steps_played : {A : Type 0} (state : A → ScriptState) (ahead : Bool) (from k j : ℕ) (rows : List HistoryRow)
    (asked : List (List Step)) (actors later : List A) (scripts : List (List Line))
    → j ≡ from + k → map start_of scripts ≡ map state actors → ArePlayedFrom state ahead from rows asked actors later
    → AreSteps (slice_index_or scripts k []) (get_or asked k []) (replies_in j rows)
steps_played state ahead from k j rows [] [] [] scripts at same h =
    no_steps (slice_index_or scripts k []) (replies_in j rows)
steps_played state ahead from k j rows (xs ∷ asked) (a ∷ actors) (b ∷ later) [] at same h =
    absurd (omega (arith, ap length same))
steps_played state ahead from zero j rows (xs ∷ asked) (a ∷ actors) (b ∷ later) (script ∷ scripts) at same h =
    let here : start_of script ≡ state a = ap (λ (l : List ScriptState). get_or l 0 (start_of script)) same in
    let number : j ≡ from = omega (arith, at) in
    subst (λ (i : ℕ). AreSteps script xs (replies_in i rows)) (sym number)
    (steps_by ahead script (state a) xs (replies_in from rows) (state b) here h.0)
steps_played state ahead from (suc k) j rows (xs ∷ asked) (a ∷ actors) (b ∷ later) (script ∷ scripts) at same h =
    let number : j ≡ (from + 1) + k = omega (arith, at) in
    steps_played state ahead (from + 1) k j rows asked actors later scripts number (ap (drop 1) same) h.1
steps_played state ahead from k j rows [] (a ∷ actors) later scripts at same h = absurd h
steps_played state ahead from k j rows [] [] (b ∷ later) scripts at same h = absurd h
steps_played state ahead from k j rows (xs ∷ asked) [] later scripts at same h = absurd h
steps_played state ahead from k j rows (xs ∷ asked) (a ∷ actors) [] scripts at same h = absurd h

-- ## The run

-- the steps that the machine's threads asked are those of these scripts, under
-- the replies of its rows; and what came for each is supplied
pub record IsSupplied (D : Type 0) (m : Shown D) (s : State) (input : Inputs) : Type 0 where
  pub threads : length m.whole.threads ≡ length input.scripts
  pub settings : settings_in m.whole ≡ input.settings
  pub steps : (i : ℕ) → AreSteps (script_of input i) (let t = thread_at m.whole i in t.asked)
      (replies_in i m.whole.rows)
  pub outcomes : (i n : ℕ) (o : Given) → slice_get (thread_of s i).came n ≡ Some o → Supplies (outcomes_of input i) n o

abbrev pub supply_of : Inputs → Supply
supply_of input = record { next = λ i. scripted (script_of input i); outcomes = outcomes_of input }

follows : KnownOfThreads → (D : Type 0) (m : Shown D) (kept : IsKept D m) (input : Inputs)
    → IsSupplied D m kept.end input → Follows (supply_of input) kept.end
follows known D m kept input h =
    let s = kept.end in
    let shows = kept.ends.1 in
    let replies : (i : ℕ) → replies_in i m.whole.rows ≡ (thread_of s i).replies =
    λ i. ap (replies_in i) (sym shows.rows)
    ∙ (sym (replies_shown i s.rows)
    ∙ sym (known.replies (setup_under (terms_with m.whole (own s))) (length m.whole.threads) limit.OBJECTS
    first_world s kept.ends.0 i)) in
    record {
      steps = λ i.
          subst (λ (rs : List Reply). AreSteps (script_of input i) (thread_of s i).asked rs) (replies i)
          (subst (λ (xs : List Step). AreSteps (script_of input i) xs (replies_in i m.whole.rows))
          (sym (shows.threads i).asked) (h.steps i));
      outcomes = h.outcomes;
    }

-- it is a beginning of the plain run
pub begins_plain : KnownOfThreads → (D : Type 0) (m : Shown D) (kept : IsKept D m) (input : Inputs) (last : State)
    → IsSupplied D m kept.end input → EndsIn (setup_of input) (first_state input) last → Begins kept.end last
begins_plain known D m kept input last h ends =
    let w = m.whole in
    let under : EndsIn (real_setup (settings_in w) (supply_of input)) (real_start (length w.threads)) last =
    subst (λ (n : ℕ). EndsIn (real_setup (settings_in w) (supply_of input)) (real_start n) last) (sym h.threads)
    (subst (λ (z : Settings). EndsIn (real_setup z (supply_of input)) (first_state input) last) (sym h.settings) ends)
    in
    known.followed (setup_under (terms_with w (own kept.end))) (length w.threads) limit.OBJECTS first_world kept.end
    last (supply_of input) kept.ends.0 (follows known D m kept input h) under
