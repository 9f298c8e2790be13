-- What a machine shows is a beginning of what the plain run has.
use Rattle.machine.proofs.Recording.{record_laws}
use Rattle.std.proofs.lemmas.Option.{slice_get-map}
use Rattle.machine.specs.Records.{as_logged, outcomes_of}
use Rattle.std.proofs.Common.{◌≡◌, ℕ, ◌<◌, ◌≤◌, List, [], ◌∷◌, length, map, filter_map, Option, Some, None, Bool, true}
use Rattle.std.proofs.Common.{false, is_none, ◌==◌, if◌then◌else◌, sym, refl, ap, ◌∙◌, subst, ⊎_elim, slice_get}
use Rattle.std.proofs.Common.{option_map}
use Rattle.std.proofs.lemmas.Bool.{cases_lt}
use Rattle.std.proofs.lemmas.List.{get_or_past, map-append}
use Rattle.lock_machine.specs.Conditions.{setup_under, start_under}
use Rattle.lock_machine.specs.Shows.{PhaseShows, Shows}
use Rattle.lock_machine.specs.Whole.{Whole, thread_at}
use Rattle.lock_machine.specs.declared.thread.Phase.{Phase}
use Rattle.sequential_object.specs.declared.turn_end.TurnEnd.{TurnEnd}
use Rattle.sequential_object.specs.declared.turn_end.TurnEnd.TheVariants as turn_end
use Rattle.lock_model.specs.History as lock
use Rattle.lock_model.specs.History.{Agrees, IsPrefixOf}
use Rattle.lock_model.specs.Laws.{Begins, OwnFinite, PrefixLawOfFollowed, RunFollows, SomeEnd}
use Rattle.sequential_object.specs.Numbers.{first_world}
use Rattle.lock_model.specs.Programs.{Supply, listed}
use Rattle.sequential_object.specs.Answers.{outcome_in}
use Rattle.lock_model.specs.Rising as rising
use Rattle.lock_model.specs.Rows.{shown, shown_answer}
use Rattle.lock_model.specs.Runs.{own, Follows, supplied, Keeps}
use Rattle.lock_model.specs.Schedule.{EndsIn}
use Rattle.lock_model.specs.State.{Row, State, nobody, thread_of}
use Rattle.lock_model.specs.State.Phase.{Ended}
use Rattle.lock_model.specs.Transcripts as seen
use Rattle.posix_terms.specs.declared.limits.TheConstants.Limits as limit
use Rattle.posix_terms.specs.declared.outcome.Given.{Given}
use Rattle.posix_terms.specs.declared.outcome.Outcome.{Outcome}
use Rattle.posix_terms.specs.declared.reply.Answer as replied
use Rattle.posix_terms.specs.declared.reply.Answer.TheVariants as answer
use Rattle.posix_terms.specs.declared.transcript.HistoryRow.{HistoryRow}
use Rattle.posix_terms.specs.declared.transcript.Row as posix
use Rattle.posix_terms.specs.declared.transcript.Turn.{Turn}
use Rattle.posix_terms.specs.declared.step.Step.{Step}
use Rattle.machine.specs.Begins.{BeginsPlainRun, HaveEnded, IsAllOf, IsBeginning, RowAgrees, steps_and_records}
use Rattle.machine.specs.History.{AreRising, IsBeforeAll, answer_before, answers_in, outcome_before, outcomes_in}
use Rattle.machine.specs.History.{reply_before, rows_of, transcript_of}
use Rattle.machine.specs.Kept.{IsKept}
use Rattle.machine.specs.Runs.{terms_with}
use Rattle.machine.specs.Shown.{Shown}

-- ## Rows, as a history shows them

agrees_outcome : (o p : Option Given) → Agrees o p → Agrees (outcome_in o) (outcome_in p)
agrees_outcome None p h = tt
agrees_outcome (Some g) p h = ap outcome_in h

agrees_answer : (o p : Option TurnEnd) → Agrees o p → Agrees (shown_answer o) (shown_answer p)
agrees_answer None p h = tt
agrees_answer (Some (turn_end.Reply r)) p h = ap shown_answer h
agrees_answer (Some (turn_end.Blocked b)) p h = ap shown_answer h

answered_shown : (o : Option TurnEnd) → is_none (shown_answer o) ≡ false → is_none o ≡ false
answered_shown None h = h
answered_shown (Some a) h = refl

row_shown : (r q : Row) → lock.RowAgrees r q → RowAgrees (shown r) (shown q)
row_shown r q h =
    record {
      turn = h.turn;
      call = h.call;
      outcome = agrees_outcome r.outcome q.outcome h.outcome;
      answer = agrees_answer r.answer q.answer h.answer;
      closed = λ c. ap shown (h.closed (answered_shown r.answer c));
    }

rows_shown : (rs qs : List Row) → lock.IsBeginning rs qs → IsBeginning (map shown rs) (map shown qs)
rows_shown [] qs h = tt
rows_shown (r ∷ rs) [] h = absurd h
rows_shown (r ∷ rs) (q ∷ qs) h = (row_shown r q h.0, rows_shown rs qs h.1)

of_thread : (i : ℕ) (rs : List Row) → rows_of i (map shown rs) ≡ map shown (lock.rows_of i rs)
of_thread i [] = refl
of_thread i (r ∷ rs) = by_test (r.turn.thread == i) (of_thread i rs)
  where
    by_test : (b : Bool) → rows_of i (map shown rs) ≡ map shown (lock.rows_of i rs)
        → (if b then shown r ∷ rows_of i (map shown rs) else rows_of i (map shown rs))
        ≡ map shown (if b then r ∷ lock.rows_of i rs else lock.rows_of i rs)
    by_test true h = ap (λ (xs : List HistoryRow). shown r ∷ xs) h
    by_test false h = h

transcript_shown : (i : ℕ) (rs : List Row) → transcript_of i (map shown rs) ≡ seen.transcript i rs
transcript_shown i [] = refl
transcript_shown i (r ∷ rs) = by_test (r.turn.thread == i) r.answer (transcript_shown i rs)
  where
    by_answer : (o : Option TurnEnd) → transcript_of i (map shown rs) ≡ seen.transcript i rs
        → reply_before (shown (record r { answer = o })) (shown_answer o) (transcript_of i (map shown rs))
        ≡ filter_map (λ (x : Row). seen.replied x x.answer) (record r { answer = o } ∷ lock.rows_of i rs)
    by_answer None h = h
    by_answer (Some (turn_end.Reply x)) h =
        ap (λ (ts : List posix.Row). record { call = r.call; turn = r.turn; reply = x } ∷ ts) h
    by_answer (Some (turn_end.Blocked b)) h = h

    by_test : (b : Bool) (o : Option TurnEnd) → transcript_of i (map shown rs) ≡ seen.transcript i rs
        → (if b then reply_before (shown (record r { answer = o })) (shown_answer o) (transcript_of i (map shown rs))
        else transcript_of i (map shown rs))
        ≡ filter_map (λ (x : Row). seen.replied x x.answer) (if b then record r { answer = o } ∷ lock.rows_of i rs
        else lock.rows_of i rs)
    by_test true o h = by_answer o h
    by_test false o h = h

pub outcomes_shown : (i : ℕ) (rs : List Row)
    → map (λ (g : Given). g.outcome) (seen.outcomes_of i rs) ≡ outcomes_in i (map shown rs)
outcomes_shown i [] = refl
outcomes_shown i (r ∷ rs) = by_test (r.turn.thread == i) r.outcome (outcomes_shown i rs)
  where
    by_outcome : (o : Option Given)
        → map (λ (g : Given). g.outcome) (seen.outcomes_of i rs) ≡ outcomes_in i (map shown rs)
        → map (λ (g : Given). g.outcome)
        (filter_map (λ (x : Row). x.outcome) (record r { outcome = o } ∷ lock.rows_of i rs))
        ≡ outcome_before (outcome_in o) (outcomes_in i (map shown rs))
    by_outcome None h = h
    by_outcome (Some g) h = ap (λ (os : List Outcome). g.outcome ∷ os) h

    by_test : (b : Bool) (o : Option Given)
        → map (λ (g : Given). g.outcome) (seen.outcomes_of i rs) ≡ outcomes_in i (map shown rs)
        → map (λ (g : Given). g.outcome)
        (filter_map (λ (x : Row). x.outcome) (if b then record r { outcome = o } ∷ lock.rows_of i rs
        else lock.rows_of i rs)) ≡ (if b then outcome_before (outcome_in o) (outcomes_in i (map shown rs))
        else outcomes_in i (map shown rs))
    by_test true o h = by_outcome o h
    by_test false o h = h

abbrev shown_as : TurnEnd → replied.Answer
shown_as (turn_end.Reply r) = answer.Reply r
shown_as (turn_end.Blocked b) = answer.Again

answers_shown : (i : ℕ) (rs : List Row) → map shown_as (seen.answers_of i rs) ≡ answers_in i (map shown rs)
answers_shown i [] = refl
answers_shown i (r ∷ rs) = by_test (r.turn.thread == i) r.answer (answers_shown i rs)
  where
    by_answer : (o : Option TurnEnd) → map shown_as (seen.answers_of i rs) ≡ answers_in i (map shown rs)
        → map shown_as (filter_map (λ (x : Row). x.answer) (record r { answer = o } ∷ lock.rows_of i rs))
        ≡ answer_before (shown_answer o) (answers_in i (map shown rs))
    by_answer None h = h
    by_answer (Some (turn_end.Reply x)) h = ap (λ (os : List replied.Answer). answer.Reply x ∷ os) h
    by_answer (Some (turn_end.Blocked b)) h = ap (λ (os : List replied.Answer). answer.Again ∷ os) h

    by_test : (b : Bool) (o : Option TurnEnd) → map shown_as (seen.answers_of i rs) ≡ answers_in i (map shown rs)
        → map shown_as (filter_map (λ (x : Row). x.answer) (if b then record r { answer = o } ∷ lock.rows_of i rs
        else lock.rows_of i rs)) ≡ (if b then answer_before (shown_answer o) (answers_in i (map shown rs))
        else answers_in i (map shown rs))
    by_test true o h = by_answer o h
    by_test false o h = h

-- ## Turns

before_shown : (t : Turn) (rs : List Row) → rising.IsBeforeAll t rs → IsBeforeAll t (map shown rs)
before_shown t [] h = tt
before_shown t (r ∷ rs) h = (h.0, before_shown t rs h.1)

pub rising_shown : (rs : List Row) → rising.IsRising rs → AreRising (map shown rs)
rising_shown [] h = tt
rising_shown (r ∷ rs) h = (before_shown r.turn rs h.0, rising_shown rs h.1)

-- ## The plain run

prefix_map : {A B : Type 0} (f : A → B) (xs ys : List A) → IsPrefixOf xs ys → IsPrefixOf (map f xs) (map f ys)
prefix_map f xs ys h = (map f h.0, sym (map-append f xs h.0) ∙ ap (map f) h.1)

ended_shown : (w : Whole) (s : State) → Shows (terms_with w (own s)) w s → HaveEnded w → (i : ℕ)
    → (thread_of s i).phase ≡ Ended
ended_shown w s h ended i = ⊎_elim inside past (cases_lt i (length w.threads))
  where
    inside : i < length w.threads → (thread_of s i).phase ≡ Ended
    inside l
        = let P : Phase → Type 0 = λ p. PhaseShows (terms_with w (own s)) i s.rows (thread_at w i) (thread_of s i) p
        in subst P (ended i l) (h.threads i).phase

    past : length w.threads ≤ i → (thread_of s i).phase ≡ Ended
    past l = ap (λ t. t.phase) (get_or_past s.threads i nobody (subst (λ (n : ℕ). n ≤ i) (sym h.count) l))

all_of : (D : Type 0) (m : Shown D) (s last : State) → map shown s.rows ≡ m.whole.rows
    → ((i : ℕ) → (thread_of s i).asked ≡ (let t = thread_at m.whole i in t.asked)) → s ≡ last → IsAllOf D m last
all_of D m s last rows asked same =
    let own : m.whole.rows ≡ map shown last.rows = sym rows ∙ ap (λ (z : State). map shown z.rows) same in
    record {
      rows = own;
      steps = λ i. sym (asked i) ∙ ap (λ (z : State). (thread_of z i).asked) same;
      outcomes = λ i. ap (outcomes_in i) own;
      answers = λ i. ap (answers_in i) own;
      transcripts = λ i. ap (transcript_of i) own;
    }

-- the steps that the threads asked in this state, and by thread the outcomes of the log's records
abbrev steps_and_own_records : {D : Type 0} → Shown D → State → Supply
steps_and_own_records m s = record (own s) { outcomes = λ i. outcomes_of i m.log.records }

-- a run follows the steps that it asked, and the outcomes that its log has
follows_records : (D : Type 0) (m : Shown D) → (h : IsKept D m) → ((version : ℕ) → Keeps (as_logged version))
    → RunFollows → Follows (steps_and_own_records m h.end) h.end
follows_records D m h keeps follows =
    let w = m.whole in
    let s = h.end in
    let to = h.ends.0 in
    let setup = supplied (setup_under (terms_with w (own s))) (own s) in
    let f : Follows (own s) s = subst (Follows (own s)) to.ends
    (follows setup (length w.threads) limit.OBJECTS first_world to.events) in
    record {
      steps = f.steps;
      outcomes = λ i n o at. (
        as_logged w.settings.version o,
        ap (λ (l : List Given). slice_get l n) (sym (h.came i))
            ∙ slice_get-map (as_logged w.settings.version) (thread_of s i).came n
            ∙ ap (option_map (as_logged w.settings.version)) at,
        keeps w.settings.version o,
      );
    }

pub begins_plain : (D : Type 0) (m : Shown D) → IsKept D m → PrefixLawOfFollowed → RunFollows → SomeEnd → OwnFinite
    → BeginsPlainRun D m
begins_plain D m h law follows some finite =
    let w = m.whole in
    let s = h.end in
    let given = steps_and_own_records m s in
    let setup = setup_under (terms_with w (own s)) in
    let few = finite s in
    let end = some (supplied setup given) (start_under (terms_with w (own s)))
    (record { bound = few.bound; ends = few.ends }) in
    let last = end.0 in
    let b : Begins s last = law setup (length w.threads) limit.OBJECTS first_world s last given h.ends.0
    (follows_records D m h record_laws.keeps follows) end.1 in
    let asked : (i : ℕ) → (thread_of s i).asked ≡ (let t = thread_at w i in t.asked) =
    λ i. (h.ends.1.threads i).asked in
    let same : given ≡ steps_and_records m =
    λ k. record { next = λ i. listed (asked i k); outcomes = λ i. outcomes_of i m.log.records } in
    let rows : map shown s.rows ≡ w.rows = h.ends.1.rows in
    record {
      last = last;
      ends = subst (λ (x : Supply). EndsIn (setup_under (terms_with w x)) (start_under (terms_with w x)) last) same
          end.1;
      together = subst (λ (rs : List HistoryRow). IsBeginning rs (map shown last.rows)) rows
          (rows_shown s.rows last.rows b.together);
      rows = λ i.
          let mine = rows_shown (lock.rows_of i s.rows) (lock.rows_of i last.rows) (b.rows i) in
          let there = subst (λ (ys : List HistoryRow). IsBeginning (map shown (lock.rows_of i s.rows)) ys)
          (sym (of_thread i last.rows)) mine in
          let here = subst (λ (xs : List HistoryRow). IsBeginning xs (rows_of i (map shown last.rows)))
          (sym (of_thread i s.rows)) there in
          subst (λ (rs : List HistoryRow). IsBeginning (rows_of i rs) (rows_of i (map shown last.rows))) rows here;
      steps = λ i. subst (λ (xs : List Step). IsPrefixOf xs (thread_of last i).asked) (asked i) (b.steps i);
      outcomes = λ i.
          let mine = prefix_map (λ (g : Given). g.outcome) (seen.outcomes_of i s.rows) (seen.outcomes_of i last.rows)
          (b.outcomes i) in
          let there = subst (λ (ys : List Outcome). IsPrefixOf
          (map (λ (g : Given). g.outcome) (seen.outcomes_of i s.rows)) ys) (outcomes_shown i last.rows) mine in
          subst (λ (xs : List Outcome). IsPrefixOf xs (outcomes_in i (map shown last.rows))) (outcomes_shown i s.rows
          ∙ ap (outcomes_in i) rows) there;
      answers = λ i.
          let mine = prefix_map shown_as (seen.answers_of i s.rows) (seen.answers_of i last.rows) (b.answers i) in
          let there = subst (λ (ys : List replied.Answer). IsPrefixOf (map shown_as (seen.answers_of i s.rows)) ys)
          (answers_shown i last.rows) mine in
          subst (λ (xs : List replied.Answer). IsPrefixOf xs (answers_in i (map shown last.rows)))
          (answers_shown i s.rows ∙ ap (answers_in i) rows) there;
      transcripts = λ i.
          let there = subst (λ (ys : List posix.Row). IsPrefixOf (seen.transcript i s.rows) ys)
          (sym (transcript_shown i last.rows)) (b.transcripts i) in
          subst (λ (xs : List posix.Row). IsPrefixOf xs (transcript_of i (map shown last.rows)))
          (sym (transcript_shown i s.rows) ∙ ap (transcript_of i) rows) there;
      whole = λ ended. all_of D m s last rows asked (b.whole (ended_shown w s h.ends.1 ended));
    }
