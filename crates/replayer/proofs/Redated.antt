-- A log of version 1 with the clocks of the turns is a log of version 2, which covers the rows.
use Rattle.std.proofs.Common.{◌≡◌, ℕ, ◌+◌, Bool, true, false, List, [], ◌∷◌, ◌++◌, length, map, drop, get_or}
use Rattle.std.proofs.Common.{Option, None, cond, if◌then◌else◌, ◌==◌, ◌&&◌, refl, sym, ap, ap₂, ◌∙◌, subst, arith}
use Rattle.std.specs.Option.{unwrap_or}
use Rattle.std.proofs.lemmas.Bool.{eq-eqb, eqb-true}
use Rattle.std.proofs.lemmas.Grind.{fold-append}
use Rattle.std.proofs.lemmas.List.{drop-drop, get_or-drop}
use Rattle.std.proofs.lemmas.List.Sums.{sum_by-append, sum_by-cons}
use Rattle.call_machine.specs.Covered.{IsCovered, clocks_in, outcomes_in}
use Rattle.call_machine.specs.Logs.{plain_records}
use Rattle.call_machine.specs.Plain.{log_of}
use Rattle.call_machine.specs.RunLogs.{in_version}
use Rattle.call_machine.specs.Setup.{first_state, setup_of}
use Rattle.call_machine.specs.Upgraded.{upgraded, with_clock}
use Rattle.input_log.specs.Format.{fixed_of, text_of}
use Rattle.input_log.specs.Grammar.{AreGood, IsGood, IsLog, due_of, good, in_range, is_version, last_clock, number_of}
use Rattle.input_log.specs.Outcomes.{given_of, outcomes_of}
use Rattle.input_log.specs.declared.fixed.Due.{Due}
use Rattle.input_log.specs.declared.log.Header.{Header}
use Rattle.input_log.specs.declared.log.LogText.{LogText}
use Rattle.input_log.specs.declared.log.Record.{Record}
use Rattle.lock_model.specs.State.{State, thread_of}
use Rattle.machine.specs.Records.{as_logged, record_of}
use Rattle.posix_terms.specs.declared.outcome.Given.{Given}
use Rattle.posix_terms.specs.declared.transcript.HistoryRow.{HistoryRow}
use Rattle.thread_scripts.specs.declared.line.Line.{Line}
use Rattle.replayer.specs.Known.{KnownOfThreads}
use Rattle.replayer.specs.Replay.{inputs_of}
use Rattle.replayer.proofs.Diverged.{plain_end}
use Rattle.replayer.proofs.Fronts.{settings_fit, threads_fit}
use Rattle.replayer.proofs.Retelling.{IsRetraced, same_came}
use Rattle.replayer.proofs.Supplied.{HasCame}

-- ## What is due of a thread

-- after a record of its own, or of another thread
abbrev due_after : Bool → Due → Record → Due
due_after true due r = record { number = due.number + 1; clock = unwrap_or r.clock 0 }
due_after false due r = due

-- one record more counts for its thread alone
number_more : (i : ℕ) (before : List Record) (r : Record)
    → number_of i (before ++ r ∷ []) ≡ (if r.thread == i then number_of i before + 1 else number_of i before)
number_more i before r =
    sum_by-append (λ (x : Record). cond (x.thread == i) 1 0) before (r ∷ [])
    ∙ ap (λ n. number_of i before + n) (sum_by-cons (λ (x : Record). cond (x.thread == i) 1 0) r [])
    ∙ by_test (r.thread == i) (number_of i before)
  where
    by_test : (b : Bool) (n : ℕ) → n + (cond b 1 0 + 0) ≡ (if b then n + 1 else n)
    by_test true n = omega arith
    by_test false n = omega arith

-- so it changes what is due of that thread alone
due_more : (i : ℕ) (before : List Record) (r : Record)
    → due_of i (before ++ r ∷ []) ≡ due_after (r.thread == i) (due_of i before) r
due_more i before r =
    let next : ℕ → Record → ℕ = λ last x. if x.thread == i then unwrap_or x.clock 0 else last in
    ap₂ (λ n c. record { number = n; clock = c }) (number_more i before r) (fold-append next 0 before (r ∷ []))
    ∙ by_test (r.thread == i) (number_of i before) (last_clock i before)
  where
    by_test : (b : Bool) (n c : ℕ)
        → (let number = if b then n + 1 else n in
        let clock = if b then unwrap_or r.clock 0 else c in
        let due : Due = record { number = number; clock = clock } in due)
        ≡ due_after b (record { number = n; clock = c }) r
    by_test true n c = refl
    by_test false n c = refl

-- ## Good records, thread by thread

-- what came for a thread makes good records, where this is due of it first
abbrev AreFine : Header → ℕ → Due → List Given → Type 0
AreFine header i due [] = Unit {0}
AreFine header i due (g ∷ gs) =
    let r = record_of i due.number g in
    (good header due (fixed_of r) ≡ true) × AreFine header i (due_after true due r) gs

-- each record has the number that is due of its thread
abbrev AreNumbered : List Record → List Record → Type 0
AreNumbered before [] = Unit {0}
AreNumbered before (r ∷ rs) = (r.number ≡ number_of r.thread before) × AreNumbered (before ++ r ∷ []) rs

-- the second of all that hold
second_of : (a b c d e f g h : Bool) → (a && b && c && d && e && f && g && h) ≡ true → b ≡ true
second_of a b c d e f g h all = grind (arith, all)

-- a good record has the number that is due
number_due : (header : Header) (due : Due) (r : Record) → good header due (fixed_of r) ≡ true → r.number ≡ due.number
unfolding good
number_due header due r ok = eqb-true r.number due.number (second_of _ (r.number == due.number) _ _ _ _ _ _ ok)

-- so good records are numbered so
numbered : (header : Header) (before rs : List Record) → AreGood header before rs → AreNumbered before rs
numbered header before [] good = tt
numbered header before (r ∷ rs) good =
    (number_due header (due_of r.thread before) r good.0, numbered header (before ++ r ∷ []) rs good.1)

-- and what they have of any thread makes good records
all_fine : (header : Header) (before rs : List Record) → AreGood header before rs
    → (i : ℕ) → AreFine header i (due_of i before) (outcomes_of i rs)
all_fine header before [] good i = tt
all_fine header before (r ∷ rs) good i =
    by_test (r.thread == i) refl
    (subst (λ (d : Due). AreFine header i d (outcomes_of i rs)) (due_more i before r)
    (all_fine header (before ++ r ∷ []) rs good.1 i))
  where
    own : r.thread ≡ i → IsGood header before (record_of i (number_of i before) (given_of r))
    own is =
        subst (λ (t : ℕ). IsGood header before (record_of t (number_of t before) (given_of r))) is
        (subst (λ (n : ℕ). IsGood header before (record_of r.thread n (given_of r)))
        (number_due header (due_of r.thread before) r good.0) good.0)

    by_test : (b : Bool) → (r.thread == i) ≡ b
        → AreFine header i (due_after (r.thread == i) (due_of i before) r) (outcomes_of i rs)
        → AreFine header i (due_of i before) (if b then given_of r ∷ outcomes_of i rs else outcomes_of i rs)
    by_test true is later = (
      own (eqb-true r.thread i is),
      subst (λ (b : Bool). AreFine header i (due_after b (due_of i before) r) (outcomes_of i rs)) is later,
    )
    by_test false is later =
        subst (λ (b : Bool). AreFine header i (due_after b (due_of i before) r) (outcomes_of i rs)) is later

-- records that are numbered so are good where what they have of any thread makes good ones
all_good : (header : Header) (before rs : List Record) → AreNumbered before rs
    → ((i : ℕ) → AreFine header i (due_of i before) (outcomes_of i rs)) → AreGood header before rs
all_good header before [] numbers fine = tt
all_good header before (r ∷ rs) numbers fine = (
  subst (λ (n : ℕ). IsGood header before (record_of r.thread n (given_of r))) (sym numbers.0) own.0,
  all_good header (before ++ r ∷ []) rs numbers.1
      (λ i.
      subst (λ (d : Due). AreFine header i d (outcomes_of i rs)) (sym (due_more i before r))
      (later i (r.thread == i) (fine i))),
)
  where
    own : AreFine header r.thread (due_of r.thread before) (given_of r ∷ outcomes_of r.thread rs)
    own =
        let rest = outcomes_of r.thread rs in
        subst (λ (b : Bool). AreFine header r.thread (due_of r.thread before) (if b then given_of r ∷ rest else rest))
        (eq-eqb r.thread r.thread refl) (fine r.thread)

    later : (i : ℕ) (b : Bool)
        → AreFine header i (due_of i before) (if b then given_of r ∷ outcomes_of i rs else outcomes_of i rs)
        → AreFine header i (due_after b (due_of i before) r) (outcomes_of i rs)
    later i true h = h.1
    later i false h = h

-- ## Other clocks

-- leave the numbers as they are
renumbered : (clocks : ℕ → List (Option ℕ)) (before other rs : List Record)
    → ((i : ℕ) → number_of i other ≡ number_of i before)
    → AreNumbered before rs → AreNumbered other (map (with_clock clocks) rs)
renumbered clocks before other [] same numbers = tt
renumbered clocks before other (r ∷ rs) same numbers = (
  numbers.0 ∙ sym (same r.thread),
  renumbered clocks (before ++ r ∷ []) (other ++ with_clock clocks r ∷ []) rs
      (λ i.
      number_more i other (with_clock clocks r)
      ∙ ap (λ (n : ℕ). if r.thread == i then n + 1 else n) (same i)
      ∙ sym (number_more i before r))
      numbers.1,
)

-- and where they are those of what came for a thread, its records have just that
redated : (version : ℕ) (clocks : ℕ → List (Option ℕ)) (i : ℕ) (before rs : List Record) (came : List Given)
    → AreNumbered before rs → map (as_logged version) came ≡ outcomes_of i rs
    → drop (number_of i before) (clocks i) ≡ map (λ (g : Given). g.clock) came
    → outcomes_of i (map (with_clock clocks) rs) ≡ came
redated version clocks i before [] [] numbers logged dates = refl
redated version clocks i before [] (g ∷ came) numbers logged dates = absurd (omega (arith, ap length logged))
redated version clocks i before (r ∷ rs) came numbers logged dates =
    by_test (r.thread == i) refl came logged dates (λ gs. redated version clocks i (before ++ r ∷ []) rs gs numbers.1)
  where
    by_test : (b : Bool) → (r.thread == i) ≡ b → (gs : List Given)
        → map (as_logged version) gs ≡ (if b then given_of r ∷ outcomes_of i rs else outcomes_of i rs)
        → drop (number_of i before) (clocks i) ≡ map (λ (g : Given). g.clock) gs
        → ((hs : List Given) → map (as_logged version) hs ≡ outcomes_of i rs
        → drop (number_of i (before ++ r ∷ [])) (clocks i) ≡ map (λ (g : Given). g.clock) hs
        → outcomes_of i (map (with_clock clocks) rs) ≡ hs)
        → (let others = outcomes_of i (map (with_clock clocks) rs) in
        if b then given_of (with_clock clocks r) ∷ others else others)
        ≡ gs
    by_test true own [] logged dates rest = absurd (omega (arith, ap length logged))
    by_test true own (g ∷ gs) logged dates rest =
        ap₂ ◌∷◌ (λ j. record { kind = kind j; clock = clock j; outcome = outcome j })
        (rest gs (ap (drop 1) logged) later)
      where
        n : ℕ
        n = number_of i before

        kind : r.kind ≡ g.kind
        kind = sym (ap (λ (l : List Given). (get_or l 0 g).kind) logged)

        outcome : r.outcome ≡ g.outcome
        outcome = sym (ap (λ (l : List Given). (get_or l 0 g).outcome) logged)

        clock : get_or (clocks r.thread) r.number None ≡ g.clock
        clock =
            let thread : r.thread ≡ i = eqb-true r.thread i own in
            let number : r.number ≡ n + 0 = numbers.0 ∙ ap (λ (t : ℕ). number_of t before) thread ∙ omega arith in
            ap₂ (λ (t m : ℕ). get_or (clocks t) m None) thread number
            ∙ sym (get_or-drop n (clocks i) 0 None)
            ∙ ap (λ (cs : List (Option ℕ)). get_or cs 0 None) dates

        later : drop (number_of i (before ++ r ∷ [])) (clocks i) ≡ map (λ (x : Given). x.clock) gs
        later =
            ap (λ (m : ℕ). drop m (clocks i)) (number_more i before r ∙ ap (λ (b : Bool). if b then n + 1 else n) own)
            ∙ sym (drop-drop 1 n (clocks i))
            ∙ ap (drop 1) dates
    by_test false other gs logged dates rest =
        let n = number_of i before in
        rest gs logged
        (ap (λ (m : ℕ). drop m (clocks i)) (number_more i before r ∙ ap (λ (b : Bool). if b then n + 1 else n) other)
        ∙ dates)

-- ## A log of version 2

-- true in place of the first of all that hold
but_first : (a b c d e f g : Bool)
    → (a && b && c && d && e && f && g) ≡ true → (true && b && c && d && e && f && g) ≡ true
but_first a b c d e f g all = grind (arith, all)

-- a header in range is so in version 2
in_range_2 : (header : Header) → in_range header ≡ true → in_range (record header { version = 2 }) ≡ true
unfolding in_range
in_range_2 header range = but_first (is_version header.version) _ _ _ _ _ _ range

-- with the clocks of its turns the log of a run covers its rows: by thread it has what the log has that
-- the plain run by it writes in version 2, so its records are as good
pub covered_by : KnownOfThreads → (log : LogText) (scripts : List (List Line)) (s : State) (version : ℕ)
    → (rows : List HistoryRow)
    → IsLog log → log.header.threads ≡ length scripts → IsRetraced (inputs_of log scripts) s
    → HasCame version (length scripts) log.records s
    → ((i : ℕ) → map (λ (g : Given). g.outcome) (thread_of s i).came ≡ outcomes_in i rows)
    → ((i : ℕ) → map (λ (g : Given). g.clock) (thread_of s i).came ≡ clocks_in 2 i rows)
    → IsCovered (record log.header { version = 2 }) rows (text_of (upgraded rows log))
covered_by known log scripts s version rows is threads retraced has outcomes clocks =
    record {
      log = upgraded rows log;
      header_is = refl;
      spelled = record { range = range; each_good = each_good; spelled = refl };
      outcomes = λ i. ap (map (λ (g : Given). g.outcome)) (came i) ∙ outcomes i;
      clocks = λ i. ap (map (λ (g : Given). g.clock)) (came i) ∙ clocks i;
    }
  where
    range : in_range (record log.header { version = 2 }) ≡ true
    range = in_range_2 log.header is.range

    numbers : AreNumbered [] log.records
    numbers = numbered log.header [] log.records is.each_good

    came : (i : ℕ) → outcomes_of i (upgraded rows log).records ≡ (thread_of s i).came
    came i =
        redated version (λ j. clocks_in 2 j rows) i [] log.records (thread_of s i).came numbers
        (has.came i) (sym (clocks i))

    each_good : AreGood (record log.header { version = 2 }) [] (upgraded rows log).records
    each_good =
        let header : Header = record log.header { version = 2 } in
        let input = in_version 2 (inputs_of log scripts) in
        let (last, ends) = plain_end known (inputs_of log scripts) in
        let plain : List Record = plain_records 2 (setup_of input) ends.count (first_state input) in
        let enough = threads_fit log.header (length scripts) log.records is.range threads in
        let two : IsLog (log_of input ends.count []) =
        known.plain.spelled input ends.count [] enough (settings_fit header range) in
        let good : AreGood header [] plain =
        subst (λ (n : ℕ). AreGood (record header { threads = n }) [] plain) (sym threads) two.each_good in
        let same : (i : ℕ) → outcomes_of i plain ≡ outcomes_of i (upgraded rows log).records =
        λ i. known.plain.came input ends.count i
        ∙ ap (λ (z : State). map (as_logged 2) (thread_of z i).came) ends.reached
        ∙ ap (map (as_logged 2)) (same_came known (inputs_of log scripts) s last retraced ends i)
        ∙ known.records.whole 2 (thread_of s i).came refl
        ∙ sym (came i) in
        all_good header [] (upgraded rows log).records
        (renumbered (λ j. clocks_in 2 j rows) [] [] log.records (λ i. refl) numbers)
        (λ i. subst (AreFine header i (due_of i [])) (same i) (all_fine header [] plain good i))
