-- The lists of a log and of a run's rows, thread by thread.
use Rattle.std.proofs.Common.{◌≡◌, ℕ, zero, suc, ◌+◌, ◌<◌, Bool, true, false, List, [], ◌∷◌, ◌++◌, length, map, get_or}
use Rattle.std.proofs.Common.{filter_map, Option, Some, None, cond, if◌then◌else◌, ◌==◌, ◌&&◌, refl, sym, ap, ◌∙◌}
use Rattle.std.proofs.Common.{⊎_elim, arith}
use Rattle.std.proofs.lemmas.Bool.{cases_eq}
use Rattle.std.proofs.lemmas.List.{get_or_append_left, length-append}
use Rattle.std.proofs.lemmas.List.Sums.{sum_by-cons}
use Rattle.std.proofs.Math.Seq.{get_or-append_seam}
use Rattle.std.specs.List.{cons_option}
use Rattle.call_machine.specs.History.{reply_before, transcript_of, transcripts_of}
use Rattle.input_log.specs.Grammar.{number_of}
use Rattle.input_log.specs.declared.log.Record.{Record}
use Rattle.sequential_object.specs.declared.turn_end.TurnEnd.{TurnEnd}
use Rattle.sequential_object.specs.declared.turn_end.TurnEnd.TheVariants as turn_end
use Rattle.lock_model.specs.History.{rows_of}
use Rattle.sequential_object.specs.Answers.{outcome_in}
use Rattle.lock_model.specs.Rows.{shown, shown_answer}
use Rattle.lock_model.specs.State.{Row}
use Rattle.lock_model.specs.Transcripts as lock
use Rattle.lock_model.specs.Transcripts.{replied, transcript}
use Rattle.posix_terms.specs.declared.outcome.Given.{Given}
use Rattle.posix_terms.specs.declared.transcript.HistoryRow.{HistoryRow}
use Rattle.posix_terms.specs.declared.transcript.Row.{Row as TranscriptRow}
use Rattle.call_machine.specs.Covered.{given_of, outcomes_of}
use Rattle.replayer.specs.Outcomes.{came_for, first_or, first_unused, is_there, outcomes_by, unused_at}

-- ## Lists that are made thread by thread

pub made_length : {A : Type 0} (f : ℕ → List A) (g : ℕ → A) → f 0 ≡ [] → ((n : ℕ) → f (suc n) ≡ f n ++ g n ∷ [])
    → (n : ℕ) → length (f n) ≡ n
made_length f g none more zero = ap length none
made_length f g none more (suc n) = ap length (more n)
    ∙ (length-append (f n) (g n ∷ []) ∙ omega (arith, made_length f g none more n))

pub made_at : {A : Type 0} (f : ℕ → List A) (g : ℕ → A) (d : A) → f 0 ≡ [] → ((n : ℕ) → f (suc n) ≡ f n ++ g n ∷ [])
    → (n i : ℕ) → i < n → get_or (f n) i d ≡ g i
made_at f g d none more zero i l = absurd (omega arith)
made_at f g d none more (suc n) i l =
    let long : length (f n) ≡ n = made_length f g none more n in
    ap (λ (xs : List _). get_or xs i d) (more n)
    ∙ ⊎_elim
    (λ (e : i ≡ n). ap (λ (k : ℕ). get_or (f n ++ g n ∷ []) k d) (e ∙ sym long)
    ∙ (get_or-append_seam (f n) (g n) [] d ∙ ap g (sym e)))
    (λ (apart : i ≡ n → ⊥).
    let less : i < n = omega arith in
    get_or_append_left (f n) (g n ∷ []) d i (omega arith) ∙ made_at f g d none more n i less)
    (cases_eq i n)

-- of the outcomes of the first threads, each thread's are at its place
pub outcomes_at : (n i : ℕ) (records : List Record) → i < n
    → get_or (outcomes_by n records) i [] ≡ outcomes_of i records
outcomes_at n i records l = made_at (λ k. outcomes_by k records) (λ k. outcomes_of k records) [] refl (λ k. refl) n i l

pub outcomes_length : (n : ℕ) (records : List Record) → length (outcomes_by n records) ≡ n
outcomes_length n records = made_length (λ k. outcomes_by k records) (λ k. outcomes_of k records) refl (λ k. refl) n

-- and so are the transcripts
pub transcripts_at : (n i : ℕ) (rows : List HistoryRow) → i < n
    → get_or (transcripts_of n rows) i [] ≡ transcript_of i rows
transcripts_at n i rows l = made_at (λ k. transcripts_of k rows) (λ k. transcript_of k rows) [] refl (λ k. refl) n i l

pub transcripts_length : (n : ℕ) (rows : List HistoryRow) → length (transcripts_of n rows) ≡ n
transcripts_length n rows = made_length (λ k. transcripts_of k rows) (λ k. transcript_of k rows) refl (λ k. refl) n

-- ## Rows as a run tells them

answer_told : (r : Row) (a : Option TurnEnd) (ts us : List TranscriptRow) → ts ≡ us
    → reply_before (shown r) (shown_answer a) ts ≡ cons_option (replied r a) us
answer_told r None ts us e = e
answer_told r (Some (turn_end.Reply x)) ts us e =
    ap (λ (l : List TranscriptRow). record { call = r.call; turn = r.turn; reply = x } ∷ l) e
answer_told r (Some (turn_end.Blocked b)) ts us e = e

row_told : (b : Bool) (r : Row) (rows : List Row) (ts : List TranscriptRow)
    → ts ≡ filter_map (λ (q : Row). replied q q.answer) rows
    → (if b then reply_before (shown r) (shown_answer r.answer) ts else ts)
    ≡ filter_map (λ (q : Row). replied q q.answer) (if b then r ∷ rows else rows)
row_told true r rows ts e = answer_told r r.answer ts (filter_map (λ (q : Row). replied q q.answer) rows) e
row_told false r rows ts e = e

-- a thread's transcript is that of the lock machine's rows
pub same_transcript : (i : ℕ) (rows : List Row) → transcript_of i (map shown rows) ≡ transcript i rows
same_transcript i [] = refl
same_transcript i (r ∷ rows) = row_told (r.turn.thread == i) r _ (transcript_of i (map shown rows))
    (same_transcript i rows)

-- ## How many outcomes came

row_counted : (b : Bool) (o : Option Given) (n : ℕ) (os : List Given) → n ≡ length os
    → cond (b && is_there (outcome_in o)) 1 0 + n ≡ length (if b then cons_option o os else os)
row_counted true (Some g) n os e = omega (arith, e)
row_counted true None n os e = omega (arith, e)
row_counted false o n os e = omega (arith, e)

row_taken : (b : Bool) (r : Row) (rows : List Row)
    → filter_map (λ (q : Row). q.outcome) (if b then r ∷ rows else rows)
    ≡ (if b then cons_option r.outcome (filter_map (λ (q : Row). q.outcome) rows)
    else filter_map (λ (q : Row). q.outcome) rows)
row_taken true r rows = refl
row_taken false r rows = refl

abbrev row_counts : ℕ → HistoryRow → Bool
row_counts i row = (row.turn.thread == i) && is_there row.outcome

-- for a thread: as many as its rows have
pub came_counted : (i : ℕ) (rows : List Row) → came_for i (map shown rows) ≡ length (lock.outcomes_of i rows)
came_counted i [] = refl
came_counted i (r ∷ rows) =
    sum_by-cons (λ (row : HistoryRow). cond (row_counts i row) 1 0) (shown r) (map shown rows)
    ∙ (row_counted (r.turn.thread == i) r.outcome (came_for i (map shown rows)) (lock.outcomes_of i rows)
    (came_counted i rows) ∙ ap length (sym (row_taken (r.turn.thread == i) r (rows_of i rows))))

record_counted : (b : Bool) (g : Given) (n : ℕ) (os : List Given) → n ≡ length os
    → cond b 1 0 + n ≡ length (if b then g ∷ os else os)
record_counted true g n os e = omega (arith, e)
record_counted false g n os e = omega (arith, e)

-- and as many as it has records
pub number_counted : (i : ℕ) (records : List Record) → number_of i records ≡ length (outcomes_of i records)
number_counted i [] = refl
number_counted i (r ∷ records) =
    sum_by-cons (λ (x : Record). cond (x.thread == i) 1 0) r records
    ∙ record_counted (r.thread == i) (given_of r) (number_of i records) (outcomes_of i records)
    (number_counted i records)

all_used : (i came count : ℕ) → came ≡ count → unused_at i came count ≡ None
all_used i came count e = grind (arith, e)

-- where as many came for each thread as it has records, each record was used
pub none_unused : (n : ℕ) (records : List Record) (rows : List HistoryRow)
    → ((i : ℕ) → came_for i rows ≡ number_of i records) → first_unused n records rows ≡ None
none_unused zero records rows h = refl
none_unused (suc n) records rows h =
    ap (λ (o : Option (ℕ × ℕ)). first_or o (unused_at n (came_for n rows) (number_of n records)))
    (none_unused n records rows h)
    ∙ all_used n (came_for n rows) (number_of n records) (h n)
