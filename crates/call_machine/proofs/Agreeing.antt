-- Plain runs of the same input show the same.
use Rattle.std.proofs.Common.{◌≡◌, ◌⊎◌, ℕ, zero, suc, ◌+◌, ◌<◌, List, ◌++◌, length, map, Option, None, inl, inr, sym}
use Rattle.std.proofs.Common.{ap, ◌∙◌, arith}
use Rattle.std.proofs.lemmas.List.{append-nil}
use Rattle.input_log.specs.Format.{text_of}
use Rattle.input_log.specs.declared.log.Record.{Record}
use Rattle.lock_model.specs.Machine.{Event, Setup}
use Rattle.lock_model.specs.Rows.{shown}
use Rattle.lock_model.specs.Schedule.{IsOver, after_event, next_event, plain_run}
use Rattle.lock_model.specs.State as lock
use Rattle.lock_model.specs.State.{State}
use Rattle.call_machine.specs.History.{transcripts_of}
use Rattle.call_machine.specs.Logs.{plain_records, recorded_next}
use Rattle.call_machine.specs.Plain.{IsPlainRun, OnePlainRun, all_true, has_ended, header_of, plain_of, stop_of}
use Rattle.call_machine.specs.Setup.{Inputs, first_state, setup_of}
use Rattle.call_machine.specs.Diverging.{diverging}
use Rattle.call_machine.specs.declared.plain.Plain.{Plain}
use Rattle.call_machine.proofs.Scheduling.{run_next}

-- ## Sums

none_more : (n : ℕ) → 0 + n ≡ n
none_more n = omega arith

all_more : (n : ℕ) → n ≡ n + 0
all_more n = omega arith

one_more : (k n : ℕ) → suc k + n ≡ suc (k + n)
one_more k n = omega arith

-- ## After a run that is over

no_event : (setup : Setup) (first : State) (n k : ℕ) → IsOver setup (plain_run setup n first)
    → plain_run setup (k + n) first ≡ plain_run setup n first
no_event setup first n zero over = ap (λ (m : ℕ). plain_run setup m first) (none_more n)
no_event setup first n (suc k) over =
    let last = plain_run setup n first in
    ap (λ (m : ℕ). plain_run setup m first) (one_more k n) ∙ run_next setup (k + n) first
    ∙ ap (λ (s : State). after_event setup s (next_event setup s)) (no_event setup first n k over)
    ∙ ap (after_event setup last) over

no_record : (version : ℕ) (setup : Setup) (first : State) (n k : ℕ) → IsOver setup (plain_run setup n first)
    → plain_records version setup (k + n) first ≡ plain_records version setup n first
unfolding plain_records
no_record version setup first n zero over = ap (λ (m : ℕ). plain_records version setup m first) (none_more n)
no_record version setup first n (suc k) over =
    let s = plain_run setup (k + n) first in
    let so_far = plain_records version setup (k + n) first in
    let none : next_event setup s ≡ None = ap (next_event setup) (no_event setup first n k over) ∙ over in
    ap (λ (m : ℕ). plain_records version setup m first) (one_more k n)
    ∙ ap (λ (e : Option Event). so_far ++ recorded_next version setup s e) none ∙ append-nil so_far
    ∙ no_record version setup first n k over

-- ## What is shown

shown_with : Inputs → State → List Record → Plain
shown_with input last records =
    let rows = map shown last.rows in
    record {
      transcripts = transcripts_of (length last.threads) rows;
      history = record { rows = rows; asked = map (λ (t : lock.Thread). t.asked) last.threads };
      log = text_of (record {
        header = header_of input;
        records = records;
        closed = all_true (map (λ (t : lock.Thread). has_ended t.phase) last.threads);
      });
      stop = stop_of last (diverging (setup_of input) last);
    }

same_shown : (input : Inputs) (m n : ℕ) (s t : State) → s ≡ t
    → plain_records input.settings.version (setup_of input) m (first_state input)
    ≡ plain_records input.settings.version (setup_of input) n (first_state input)
    → plain_of input m s ≡ plain_of input n t
unfolding shown_with
same_shown input m n s t states records =
    ap (shown_with input s) records
    ∙ ap (λ (z : State). shown_with input z
    (plain_records input.settings.version (setup_of input) n (first_state input))) states

-- ## Two runs

later : (input : Inputs) (one other : Plain) (p : IsPlainRun input one) (q : IsPlainRun input other) (k : ℕ)
    → q.count ≡ k + p.count → one ≡ other
later input one other p q zero counts =
    let same : q.count ≡ p.count = counts ∙ none_more p.count in
    let setup = setup_of input in
    let first = first_state input in
    p.shows
    ∙ same_shown input p.count q.count p.last q.last (sym p.goes.reached
    ∙ ap (λ (n : ℕ). plain_run setup n first) (sym same) ∙ q.goes.reached)
    (ap (λ (n : ℕ). plain_records input.settings.version setup n first) (sym same))
    ∙ sym q.shows
later input one other p q (suc k) counts =
    let setup = setup_of input in
    let first = first_state input in
    let straight : diverging setup p.last ≡ None = ap (diverging setup) (sym p.goes.reached)
    ∙ q.goes.straight p.count (fewer p.count q.count k counts) in
    let over : IsOver setup (plain_run setup p.count first) = ap (next_event setup) p.goes.reached ∙ p.ends straight in
    let states = sym p.goes.reached ∙ sym (no_event setup first p.count (suc k) over)
    ∙ ap (λ (n : ℕ). plain_run setup n first) (sym counts) ∙ q.goes.reached in
    let records = sym (no_record input.settings.version setup first p.count (suc k) over)
    ∙ ap (λ (n : ℕ). plain_records input.settings.version setup n first) (sym counts) in
    p.shows ∙ same_shown input p.count q.count p.last q.last states records ∙ sym q.shows
  where
    fewer : (m n k : ℕ) → n ≡ suc k + m → m < n
    fewer m n k h = omega (arith, h)

pub one_plain_run : OnePlainRun
one_plain_run input one other p q = by_counts (apart p.count q.count)
  where
    apart : (m n : ℕ) → ((k : ℕ) × (n ≡ k + m)) ⊎ ((k : ℕ) × (m ≡ k + n))
    apart zero n = inl (n, all_more n)
    apart (suc m) zero = inr (suc m, all_more (suc m))
    apart (suc m) (suc n) = both_more m n (apart m n)
      where
        next : (m n k : ℕ) → n ≡ k + m → suc n ≡ k + suc m
        next m n k h = omega (arith, h)

        both_more : (m n : ℕ) → ((k : ℕ) × (n ≡ k + m)) ⊎ ((k : ℕ) × (m ≡ k + n)) → ((k : ℕ) × (suc n ≡ k + suc m))
            ⊎ ((k : ℕ) × (suc m ≡ k + suc n))
        both_more m n (inl h) = inl (h.0, next m n h.0 h.1)
        both_more m n (inr h) = inr (h.0, next n m h.0 h.1)

    by_counts : ((k : ℕ) × (q.count ≡ k + p.count)) ⊎ ((k : ℕ) × (p.count ≡ k + q.count)) → one ≡ other
    by_counts (inl h) = later input one other p q h.0 h.1
    by_counts (inr h) = sym (later input other one q p h.0 h.1)
