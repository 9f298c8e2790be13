-- What supplies a run of real threads: the scripts of its actors, and the log that it wrote or was made by.
use Rattle.lock_model.specs.Transcripts as seen
use Rattle.posix_terms.specs.declared.limits.TheConstants.Limits as limit
use Rattle.sequential_object.specs.Meant.{request_asked}
use Rattle.sequential_object.specs.Numbers.{first_world}
use Rattle.lock_machine.specs.Conditions.{setup_under}
use Rattle.machine.specs.Runs.{terms_with}
use Rattle.std.proofs.lemmas.Simd.{map-map}
use Rattle.lock_model.specs.State.{State, thread_of}
use Rattle.lock_model.specs.Laws.{AreDated}
use Rattle.posix_terms.specs.Queries.{requested_at}
use Rattle.posix_terms.specs.declared.transcript.Turn.{Turn}
use Rattle.lock_model.specs.Runs.{Supplies, own}
use Rattle.machine.specs.Records.{as_logged}
use Rattle.std.proofs.Common.{◌≡◌, ℕ, zero, suc, ◌+◌, ◌<◌, ◌≤◌, Bool, true, false, ◌&&◌, List, [], ◌∷◌, ◌++◌, length}
use Rattle.std.proofs.Common.{map, take, get_or, slice_get, slice_index_or, Option, Some, None, is_none, if◌then◌else◌}
use Rattle.std.proofs.Common.{◌==◌, refl, sym, ap, ◌∙◌, subst, ⊎_elim, inl, inr, arith, option_map, ◌⊎◌}
use Rattle.std.proofs.lemmas.Bool.{false≢true, and_parts, cases_lt, eqb-true}
use Rattle.std.proofs.lemmas.List.{append-nil, append_assoc, get_or_past, length-map}
use Rattle.std.proofs.lemmas.Option.{none-some, same_Some, slice_get-map, slice_get_within}
use Rattle.call_machine.specs.History.{Past}
use Rattle.host_doors.specs.OutcomeList.{IsListed}
use Rattle.host_doors.specs.LogList.{LogList}
use Rattle.input_log.specs.Format.{end_text, header_text, records_text, text_of}
use Rattle.input_log.specs.Fronts.{IsFront}
use Rattle.input_log.specs.Outcomes as records
use Rattle.input_log.specs.Writing.{HasTaken, IsSound, Writing, log_of}
use Rattle.input_log.specs.declared.log.Header.{Header}
use Rattle.input_log.specs.declared.log.LogText.{LogText}
use Rattle.input_log.specs.declared.log.Record.{Record}
use Rattle.lock_machine.specs.Requests.{kind_asked}
use Rattle.lock_machine.specs.Threads.{Thread}
use Rattle.lock_machine.specs.Views.{no_thread}
use Rattle.lock_machine.specs.Whole.{settings_in, thread_at}
use Rattle.machine.specs.Covered.{IsCovered, kind_before, kinds_in}
use Rattle.machine.specs.Finishing.{EndsLog, Finishes, FinishesBy, have_ended}
use Rattle.machine.specs.History.{clock_before, clock_told, clocks_in, outcome_before, outcomes_in}
use Rattle.machine.specs.Kept.{IsKept, header_of, is_sink}
use Rattle.machine.specs.RecordLaws.{RecordLaws}
use Rattle.machine.specs.Shown.{Shown}
use Rattle.machine.specs.declared.stop.Stop.{Stop}
use Rattle.posix_terms.specs.Outcomes.{fits, is_kind, is_at, suits}
use Rattle.posix_terms.specs.declared.outcome.Given.{Given}
use Rattle.posix_terms.specs.declared.outcome.OutKind.{OutKind}
use Rattle.posix_terms.specs.declared.outcome.Outcome.{Outcome}
use Rattle.posix_terms.specs.declared.request.Request.{Request}
use Rattle.posix_terms.specs.declared.transcript.HistoryRow.{HistoryRow}
use Rattle.posix_terms.specs.declared.step.Step.{Step}
use Rattle.recorder.specs.Each.{AreLedFrom, ArePlayedFrom}
use Rattle.thread_scripts.specs.Meaning.{start_of}
use Rattle.thread_scripts.specs.declared.actor.ScriptState.{ScriptState}
use Rattle.thread_scripts.specs.declared.line.Line.{Line}
use Rattle.worker_notes.specs.Agrees.{before, brought, brought_by, brought_in, replies_in}
use Rattle.worker_notes.specs.Leads.{Leads}
use Rattle.lock_machine.specs.Requests.{query_of_kind}
use Rattle.worker_notes.specs.Requests.{request_for}
use Rattle.worker_notes.specs.declared.own.Brought.{Brought}
use Rattle.replayer.specs.Outcomes.{outcomes_by, settings_of}
use Rattle.replayer.specs.Replay.{inputs_of}
use Rattle.replayer.specs.Threads.{doors_by, doors_of, gives_logged}
use Rattle.replayer.proofs.ByThread.{made_at, made_length, outcomes_at, outcomes_length}
use Rattle.replayer.proofs.CameAgain.{came_past}
use Rattle.replayer.proofs.Following.{AreSteps, IsSupplied, steps_played}
use Rattle.replayer.specs.Known.{KnownOfThreads}
use Rattle.replayer.proofs.Retelling.{IsBack}

-- ## Its steps

asked_at : (ts : List Thread) (i : ℕ)
    → get_or (map (λ (t : Thread). t.asked) ts) i [] ≡ (let t : Thread = get_or ts i no_thread in t.asked)
asked_at [] i = refl
asked_at (t ∷ ts) zero = refl
asked_at (t ∷ ts) (suc i) = asked_at ts i

steps_supplied : {A : Type 0} (state : A → ScriptState) (ahead : Bool) (D : Type 0) (m : Shown D) (past : Past)
    (actors later : List A) (scripts : List (List Line)) (i : ℕ)
    → past.rows ≡ m.whole.rows → past.asked ≡ map (λ (t : Thread). t.asked) m.whole.threads
    → map start_of scripts ≡ map state actors → ArePlayedFrom state ahead 0 past.rows past.asked actors later
    → AreSteps (slice_index_or scripts i []) (let t = thread_at m.whole i in t.asked) (replies_in i m.whole.rows)
steps_supplied state ahead D m past actors later scripts i rows asked meant played =
    let steps = steps_played state ahead 0 i i past.rows past.asked actors later scripts (omega arith) meant played in
    subst (λ xs. AreSteps (slice_index_or scripts i []) xs (replies_in i m.whole.rows)) (ap (λ xs. get_or xs i []) asked
    ∙ asked_at m.whole.threads i)
    (subst (λ rs. AreSteps (slice_index_or scripts i []) (get_or past.asked i []) (replies_in i rs)) rows steps)

-- ## By the log that it wrote

-- a log of this version has by thread what came up to this state, of so many threads
pub record HasCame (version n : ℕ) (log : List Record) (s : State) : Type 0 where
  pub count : length s.threads ≡ n
  pub came : (i : ℕ) → map (as_logged version) (thread_of s i).came ≡ records.outcomes_of i log

pub kept_came : (D : Type 0) (m : Shown D) (kept : IsKept D m) (n : ℕ) (log : List Record) → length m.whole.threads ≡ n
    → log ≡ m.log.records
    → HasCame m.whole.settings.version n log kept.end
kept_came D m kept n log threads same =
    record { count = kept.ends.1.count ∙ threads; came = λ i. kept.came i ∙ ap (records.outcomes_of i) (sym same) }

-- past the last thread nothing came
own_outcomes : (version n : ℕ) (log : List Record) (s : State) → HasCame version n log s → (i : ℕ)
    → get_or (outcomes_by n log) i [] ≡ records.outcomes_of i log
own_outcomes version n log s h i =
    ⊎_elim
    (λ (l : i < n). outcomes_at n i log l)
    (λ (l : n ≤ i).
    let nothing : records.outcomes_of i log ≡ [] = sym (h.came i)
    ∙ ap (map (as_logged version)) (came_past s i (let count = h.count in omega (arith, count, l))) in
    get_or_past (outcomes_by n log) i [] (let long = outcomes_length n log in omega (arith, long, l)) ∙ sym nothing)
    (cases_lt i n)

-- so it supplies all of it
pub own_supplies : RecordLaws → (version n : ℕ) (log : List Record) (s : State) → HasCame version n log s
    → (i k : ℕ) (o : Given) → slice_get (thread_of s i).came k ≡ Some o → Supplies (get_or (outcomes_by n log) i []) k o
own_supplies known version n log s h i k o at = (
  as_logged version o,
  subst (λ gs. slice_get gs k ≡ Some (as_logged version o)) (sym (own_outcomes version n log s h i))
      (ap (λ gs. slice_get gs k) (sym (h.came i)) ∙ slice_get-map (as_logged version) (thread_of s i).came k
      ∙ ap (option_map (as_logged version)) at),
  known.keeps version o,
)

-- and no more
pub own_back : (version n : ℕ) (log : List Record) (s : State) → HasCame version n log s
    → (i k : ℕ) (g : Given) → slice_get (get_or (outcomes_by n log) i []) k ≡ Some g → k < length (thread_of s i).came
own_back version n log s h i k g at =
    let there : slice_get (records.outcomes_of i log) k ≡ Some g =
    subst (λ gs. slice_get gs k ≡ Some g) (own_outcomes version n log s h i) at in
    let inside = slice_get_within (records.outcomes_of i log) k g there in
    let size : length (thread_of s i).came ≡ length (records.outcomes_of i log) =
    sym (length-map (thread_of s i).came (as_logged version)) ∙ ap length (h.came i) in
    omega (arith, inside, size)

-- what its sink took has this log at its front, which may have its end
pub record TookLog (D : Type 0) (m : Shown D) (taken : List ℕ) : Type 0 where
  pub log : LogText
  pub front : IsFront taken log
  pub header : log.header ≡ m.log.header
  pub records : log.records ≡ m.log.records

front_of : KnownOfThreads → (D : Type 0) (m : Shown D) (w : Writing) → IsSound w → w.header ≡ m.log.header
    → w.records ≡ m.log.records → TookLog D m w.taken
front_of known D m w sound header same =
    record { log = log_of w; front = known.written w sound; header = header; records = same }

ended_text : (header : Header) (rs : List Record) → text_of (record { header = header; records = rs; closed = false })
    ++ end_text (length rs) ≡ text_of (record { header = header; records = rs; closed = true })
ended_text header rs =
    append_assoc (header_text header) (records_text rs ++ []) (end_text (length rs))
    ∙ ap (λ (xs : List ℕ). header_text header ++ xs)
    (ap (λ (xs : List ℕ). xs ++ end_text (length rs)) (append-nil (records_text rs)))

pub took_log : KnownOfThreads → (D : Type 0) (m : Shown D) (kept : IsKept D m) (taken : List ℕ) (failures : ℕ)
    (stopped : Option Stop) → Finishes m taken failures stopped → TookLog D m taken
took_log known D m kept taken failures stopped h = by_end (is_none m.stop && have_ended m.whole.threads) refl h
  where
    unfailed : (o : Option Stop) → is_none o ≡ true → is_sink o ≡ false
    unfailed None e = refl
    unfailed (Some s) e = absurd (false≢true e)

    sound_parts : m.log.failed ≡ false → (m.log.failures ≡ 0) × (m.log.taken ≡ text_of (log_of m.log))
    sound_parts e = subst (λ b. HasTaken b m.log) e (let s = kept.sound in s.bytes)

    by_case : m.log.failed ≡ false → EndsLog m.log taken failures stopped → TookLog D m taken
    by_case failed (inl (none, whole, count)) =
        let text = sound_parts failed in
        let w : Writing = record m.log { taken = taken; closed = true; failed = false } in
        let is : taken ≡ text_of (log_of w) =
        whole ∙ (ap (λ xs. xs ++ end_text (length m.log.records))
        (text.1 ∙ ap (λ b. text_of (record { header = m.log.header; records = m.log.records; closed = b }))
        kept.unclosed) ∙ ended_text m.log.header m.log.records) in
        let log = (let s = kept.sound in s.log) in
        front_of known D m w (record {
          log = record { range = log.range; each_good = log.each_good };
          bytes = (text.0, is);
        }) refl refl
    by_case failed (inr (sink, part, count)) =
        let text = sound_parts failed in
        let w : Writing = record m.log { taken = taken; failures = 1; failed = true } in
        let log = (let s = kept.sound in s.log) in
        front_of known D m w
        (record {
          log = record { range = log.range; each_good = log.each_good };
          bytes = (
            refl,
            kept.unclosed,
            (
              end_text (length m.log.records),
              inr refl,
              (
                part.0,
                part.1,
                part.2
                    ∙ ap (λ (xs : List ℕ). xs ++ take part.0 (end_text (length m.log.records))) text.1,
              ),
            ),
          );
        })
        refl refl

    by_end : (b : Bool) → is_none m.stop && have_ended m.whole.threads ≡ b
        → FinishesBy b m.log m.stop taken failures stopped → TookLog D m taken
    by_end true e h = by_case (kept.failed
        ∙ unfailed m.stop (and_parts (is_none m.stop) (have_ended m.whole.threads) e).0) h
    by_end false e h = subst (TookLog D m) (sym h.1) (front_of known D m m.log kept.sound refl refl)

-- so this log supplies it
pub supplied_by_own : RecordLaws
    → {A : Type 0} (state : A → ScriptState) (ahead : Bool) (D : Type 0) (m : Shown D) (kept : IsKept D m)
    (log : LogText) (past : Past) (actors later : List A) (scripts : List (List Line))
    → length m.whole.threads ≡ length scripts → log.header ≡ header_of m.whole → log.records ≡ m.log.records
    → past.rows ≡ m.whole.rows → past.asked ≡ map (λ (t : Thread). t.asked) m.whole.threads
    → map start_of scripts ≡ map state actors → ArePlayedFrom state ahead 0 past.rows past.asked actors later
    → IsSupplied D m kept.end (inputs_of log scripts)
supplied_by_own known state ahead D m kept log past actors later scripts threads header same rows asked meant played =
    record {
      threads = threads;
      settings = sym (ap settings_of header);
      steps = λ i. steps_supplied state ahead D m past actors later scripts i rows asked meant played;
      outcomes = λ i k o at. own_supplies known m.whole.settings.version (length scripts) log.records kept.end
          (kept_came D m kept (length scripts) log.records threads same) i k o at;
    }

pub back_by_own : (D : Type 0) (m : Shown D) (kept : IsKept D m) (log : LogText) (scripts : List (List Line))
    → length m.whole.threads ≡ length scripts → log.records ≡ m.log.records → IsBack kept.end (inputs_of log scripts)
back_by_own D m kept log scripts threads same i k g at =
    own_back m.whole.settings.version (length scripts) log.records kept.end
    (kept_came D m kept (length scripts) log.records threads same) i k g at

-- ## By the log that it was made by

-- each outcome that was given is that of its number
leads_listed : (number : ℕ) (o : LogList) (bs : List Brought) (p : LogList) → Leads gives_logged number o bs p
    → (k j : ℕ) (b : Brought) → j ≡ number + k → slice_get bs k ≡ Some b → IsListed o.list j b.request b.outcome
leads_listed number o [] p h k j b at is = absurd (none-some b is)
leads_listed number o (c ∷ bs) p h zero j b at is =
    let number_is : number ≡ j = omega (arith, at) in
    let same : c ≡ b = same_Some c b is in
    subst (λ (x : Brought). IsListed o.list j x.request x.outcome) same
    (subst (λ (n : ℕ). IsListed o.list n c.request c.outcome) number_is (let given = h.1 in given.chosen))
leads_listed number o (c ∷ bs) p h (suc k) j b at is =
    let later : IsListed (let q : LogList = h.0 in q.list) j b.request b.outcome =
    leads_listed (number + 1) h.0 bs p h.2 k j b (omega (arith, at)) is in
    let stays : (let q : LogList = h.0 in q.list) ≡ o.list =
    ap (λ (q : LogList). q.list) (let given = h.1 in given.counted) in
    subst (λ gs. IsListed gs j b.request b.outcome) stays later

led_at : (from k j : ℕ) (rows : List HistoryRow) (asked : List (List Step)) (doors ends : List LogList) (d : LogList)
    → j ≡ from + k → k < length doors → AreLedFrom gives_logged from rows asked doors ends
    → (q : LogList) × Leads gives_logged 0 (get_or doors k d) (brought_in j rows) q
led_at from k j rows asked [] ends d at l h = absurd (omega (arith, l))
led_at from k j rows [] (o ∷ doors) ends d at l h = absurd h
led_at from k j rows (x ∷ asked) (o ∷ doors) [] d at l h = absurd h
led_at from zero j rows (x ∷ asked) (o ∷ doors) (p ∷ ends) d at l h =
    let number : from ≡ j = omega (arith, at) in
    subst (λ (n : ℕ). (q : LogList) × Leads gives_logged 0 o (brought_in n rows) q) number (h.0.0, h.0.1)
led_at from (suc k) j rows (x ∷ asked) (o ∷ doors) (p ∷ ends) d at l h =
    led_at (from + 1) k j rows asked doors ends d (omega (arith, at)) (omega (arith, l)) h.1

doors_at : (n i : ℕ) (rs : List Record) → i < n → get_or (doors_by n rs) i (doors_of i rs) ≡ doors_of i rs
doors_at n i rs l = made_at (λ k. doors_by k rs) (λ k. doors_of k rs) (doors_of i rs) refl (λ k. refl) n i l

doors_length : (n : ℕ) (rs : List Record) → length (doors_by n rs) ≡ n
doors_length n rs = made_length (λ k. doors_by k rs) (λ k. doors_of k rs) refl (λ k. refl) n

-- each outcome that came is what a row brought, with its kind and the clock of its turn
pub record IsBrought (bs : List Brought) (k : ℕ) (g : Given) : Type 0 where
  brought : Brought
  at : slice_get bs k ≡ Some brought
  outcome : brought.outcome ≡ g.outcome
  kind : (let r = brought.request in r.kind) ≡ g.kind
  clock : (let r = brought.request in Some r.turn.clock) ≡ g.clock

abbrev Come : List Outcome → List (Option OutKind) → List (Option ℕ) → List Brought → Type 0
Come outcomes kinds clocks bs =
    (came : List Given) (k : ℕ) (g : Given) → map (λ (x : Given). x.outcome) came ≡ outcomes
    → map (λ (x : Given). Some x.kind) came ≡ kinds
    → map (λ (x : Given). x.clock) came ≡ clocks → slice_get came k ≡ Some g → IsBrought bs k g

abbrev head_outcome : Outcome → List Outcome → Outcome
head_outcome d [] = d
head_outcome d (o ∷ os) = o

abbrev tail_of : {A : Type 0} → List A → List A
tail_of [] = []
tail_of (x ∷ xs) = xs

abbrev head_kind : List (Option OutKind) → Option OutKind
head_kind [] = None
head_kind (k ∷ ks) = k

abbrev head_clock : List (Option ℕ) → Option ℕ
head_clock [] = None
head_clock (c ∷ cs) = c

-- the request of a row, of this kind
abbrev AsksAt : HistoryRow → Option Request → OutKind → Type 0
AsksAt row r x = (q : Request) × (r ≡ Some q) × (q.kind ≡ x) × (q.turn ≡ row.turn)

come_one : (row : HistoryRow) (o : Option Outcome) (k : Option OutKind) (r : Option Request) (os : List Outcome)
    (ks : List (Option OutKind)) (cs : List (Option ℕ)) (bs : List Brought)
    → ((x : OutKind) → k ≡ Some x → AsksAt row r x) → Come os ks cs bs
    → Come (outcome_before o os) (kind_before k o ks) (clock_before (clock_told 2 row) o cs)
    (before (brought r o) bs)
come_one row None k (Some q) os ks cs bs asks come came n g outcomes kinds clocks at =
    come came n g outcomes kinds clocks at
come_one row None k None os ks cs bs asks come came n g outcomes kinds clocks at =
    come came n g outcomes kinds clocks at
come_one row (Some o) k r os ks cs bs asks come [] n g outcomes kinds clocks at = absurd (none-some g at)
come_one row (Some o) k r os ks cs bs asks come (x ∷ came) n g outcomes kinds clocks at =
    by_request (asks x.kind (sym (ap head_kind kinds))) n at
  where
    by_request : AsksAt row r x.kind → (n : ℕ) → slice_get (x ∷ came) n ≡ Some g
        → IsBrought (before (brought r (Some o)) bs) n g
    by_request (q, is, same, turn) n at =
        subst (λ (z : Option Request). IsBrought (before (brought z (Some o)) bs) n g) (sym is) (by_number n at)
      where
        by_number : (n : ℕ) → slice_get (x ∷ came) n ≡ Some g → IsBrought (record { request = q; outcome = o } ∷ bs) n g
        by_number zero e =
            let is_g : x ≡ g = same_Some x g e in
            record {
              brought = record { request = q; outcome = o };
              at = refl;
              outcome = sym (ap (head_outcome o) outcomes) ∙ ap (λ (z : Given). z.outcome) is_g;
              kind = same ∙ ap (λ (z : Given). z.kind) is_g;
              clock = ap (λ (t : Turn). Some t.clock) turn ∙ sym (ap head_clock clocks)
                  ∙ ap (λ (z : Given). z.clock) is_g;
            }
        by_number (suc n) e =
            let rest = come came n g (ap tail_of outcomes) (ap tail_of kinds) (ap tail_of clocks) e in
            record {
              brought = rest.brought;
              at = rest.at;
              outcome = rest.outcome;
              kind = rest.kind;
              clock = rest.clock;
            }

asks_kind : (row : HistoryRow) (x : OutKind) → kind_asked row.call ≡ Some x
    → AsksAt row (request_for row.turn row.call) x
asks_kind row x h = (
  record { kind = x; asked = request_asked row.call; call = row.call; turn = row.turn },
  ap
      (λ (k : Option OutKind). requested_at row.turn (query_of_kind row.call k)) h,
  refl,
  refl,
)

all_come : (i : ℕ) (rows : List HistoryRow)
    → Come (outcomes_in i rows) (kinds_in i rows) (clocks_in 2 i rows) (brought_in i rows)
all_come i [] [] k g outcomes kinds clocks at = absurd (none-some g at)
all_come i [] (x ∷ came) k g outcomes kinds clocks at = absurd (omega (arith, ap length outcomes))
all_come i (row ∷ rows) came k g outcomes kinds clocks at = by_test (row.turn.thread == i) (all_come i rows) came k g
    outcomes kinds clocks at
  where
    by_test : (b : Bool) → Come (outcomes_in i rows) (kinds_in i rows) (clocks_in 2 i rows) (brought_in i rows)
        → Come (if b then outcome_before row.outcome (outcomes_in i rows) else outcomes_in i rows)
        (if b then kind_before (kind_asked row.call) row.outcome (kinds_in i rows) else kinds_in i rows)
        (if b then clock_before (clock_told 2 row) row.outcome (clocks_in 2 i rows) else clocks_in 2 i rows)
        (if b then before (brought_by row) (brought_in i rows) else brought_in i rows)
    by_test true come =
        come_one row row.outcome (kind_asked row.call) (request_for row.turn row.call) (outcomes_in i rows)
        (kinds_in i rows) (clocks_in 2 i rows) (brought_in i rows) (asks_kind row) come
    by_test false come = come

-- so what the log has of its number becomes each
came_listed : KnownOfThreads → (D : Type 0) (m : Shown D) (kept : IsKept D m) (covered : IsCovered D m) (past : Past)
    (rs : List Record) (n : ℕ) (ends : List LogList) (i k : ℕ) (g : Given)
    → i < n → past.rows ≡ m.whole.rows → AreLedFrom gives_logged 0 past.rows past.asked (doors_by n rs) ends
    → slice_get (thread_of kept.end i).came k ≡ Some g → Supplies (records.outcomes_of i rs) k g
came_listed known D m kept covered past rs n ends i k g l rows led at =
    let s = kept.end in
    let came = (thread_of s i).came in
    let setup = setup_under (terms_with m.whole (own s)) in
    let seen_came : came ≡ seen.outcomes_of i s.rows = known.plain.rows setup (length m.whole.threads) limit.OBJECTS
    first_world s kept.ends.0 i in
    let dated : AreDated s.rows = known.dated setup (length m.whole.threads) limit.OBJECTS first_world s kept.ends.0 in
    let outcomes : map (λ (x : Given). x.outcome) came ≡ outcomes_in i m.whole.rows =
    sym (map-map (λ (x : Given). x.outcome) (as_logged m.whole.settings.version) came)
    ∙ ap (map (λ (x : Given). x.outcome)) (kept.came i) ∙ covered.outcomes i in
    let kinds : map (λ (x : Given). Some x.kind) came ≡ kinds_in i m.whole.rows =
    sym (map-map (λ (x : Given). Some x.kind) (as_logged m.whole.settings.version) came)
    ∙ ap (map (λ (x : Given). Some x.kind)) (kept.came i) ∙ covered.kinds i in
    let clocks : map (λ (x : Given). x.clock) came ≡ clocks_in 2 i m.whole.rows =
    ap (map (λ (x : Given). x.clock)) seen_came ∙ known.records.clocks 2 i s.rows dated
    ∙ ap (clocks_in 2 i) kept.ends.1.rows in
    let here = all_come i m.whole.rows came k g outcomes kinds clocks at in
    let b : Brought = here.brought in
    let leads = led_at 0 i i past.rows past.asked (doors_by n rs) ends (doors_of i rs) (omega arith)
    (let long = doors_length n rs in omega (arith, long, l)) led in
    let there : Leads gives_logged 0 (doors_of i rs) (brought_in i m.whole.rows) leads.0 =
    subst (λ (o : LogList). Leads gives_logged 0 o (brought_in i m.whole.rows) leads.0) (doors_at n i rs l)
    (subst (λ xs. Leads gives_logged 0 (get_or (doors_by n rs) i (doors_of i rs)) (brought_in i xs) leads.0) rows
    leads.1) in
    let listed = leads_listed 0 (doors_of i rs) (brought_in i m.whole.rows) leads.0 there k k b (omega arith) here.at in
    let entry : Given = listed.entry in
    let request : Request = b.request in
    let answers = and_parts (suits request.kind request.asked entry) (is_at request.turn entry.clock) listed.answer in
    let suited = and_parts (is_kind entry.kind request.kind) (fits request.kind request.asked entry.outcome)
    answers.0 in
    let kind : entry.kind ≡ g.kind = known.records.kinds entry.kind request.kind suited.0 ∙ here.kind in
    let outcome : entry.outcome ≡ g.outcome = listed.outcome ∙ here.outcome in (
      entry,
      listed.at,
      record {
        same = λ j. record { kind = kind j; clock = None; outcome = outcome j };
        clock = by_clock entry.clock request.turn g.clock here.clock answers.1;
      },
    )
  where
    by_clock : (clock : Option ℕ) (turn : Turn) (own : Option ℕ) → Some turn.clock ≡ own → is_at turn clock ≡ true
        → (clock ≡ None) ⊎ (clock ≡ own)
    by_clock None turn own is at = inl refl
    by_clock (Some c) turn own is at = inr (ap Some (eqb-true c turn.clock at) ∙ is)

pub supplied_by_log : KnownOfThreads
    → {A : Type 0} (state : A → ScriptState) (ahead : Bool) (D : Type 0) (m : Shown D) (kept : IsKept D m)
    (covered : IsCovered D m) (log : LogText) (past : Past) (actors later : List A) (ends : List LogList)
    (scripts : List (List Line))
    → length m.whole.threads ≡ length scripts → settings_of log.header ≡ settings_in m.whole
    → past.rows ≡ m.whole.rows → past.asked ≡ map (λ (t : Thread). t.asked) m.whole.threads
    → map start_of scripts ≡ map state actors → ArePlayedFrom state ahead 0 past.rows past.asked actors later
    → AreLedFrom gives_logged 0 past.rows past.asked (doors_by (length scripts) log.records) ends
    → IsSupplied D m kept.end (inputs_of log scripts)
supplied_by_log known state ahead D m kept covered log past actors later ends scripts threads settings rows asked meant
    played led =
    record {
      threads = threads;
      settings = sym settings;
      steps = λ i. steps_supplied state ahead D m past actors later scripts i rows asked meant played;
      outcomes = λ i k g at.
          ⊎_elim
          (λ (l : i < length scripts).
          subst (λ gs. Supplies gs k g) (sym (outcomes_at (length scripts) i log.records l))
          (came_listed known D m kept covered past log.records (length scripts) ends i k g l rows led at))
          (λ (l : length scripts ≤ i). absurd
          (none-some g (subst (λ gs. slice_get gs k ≡ Some g)
          (came_past kept.end i (let count = kept.ends.1.count in omega (arith, count, threads, l))) at)))
          (cases_lt i (length scripts));
    }
