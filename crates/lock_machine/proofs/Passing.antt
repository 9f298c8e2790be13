-- The clocks of threads that wait for a lock are moved on, one after another.
use Rattle.std.proofs.Common.{◌≡◌, ℕ, ◌+◌, ◌<◌, ◌≤◌, List, length, max, true, false, sym, refl, ap, ◌∙◌, subst, ⊎_elim}
use Rattle.std.proofs.Common.{arith}
use Rattle.std.proofs.lemmas.Bool.{cases_eq, cond-true, cond-false}
use Rattle.std.proofs.lemmas.List.{get_or-set_other, get_or-set_same, length-set}
use Rattle.std.proofs.lemmas.List.Sums.{sum_by-set}
use Rattle.logical_clocks.specs.ThreadClocks.{clock_at, no_thread, thread_at, with_clock}
use Rattle.logical_clocks.specs.declared.clocks.ThreadClock.{ThreadClock}
use Rattle.lock_model.specs.Skipping.{first_from}
use Rattle.posix_terms.specs.declared.transcript.Turn.{Turn}
use Rattle.lock_machine.specs.Births.{time_of}
use Rattle.lock_machine.specs.Refusals.{wants_lock}
use Rattle.lock_machine.specs.Skipping.{ArePassed, passed}
use Rattle.lock_machine.specs.declared.thread.Thread.{Thread}
use Rattle.lock_machine.specs.Skipping.{phase_of}

-- those of the first n threads
pub record ArePassedBelow (turn : Turn) (ts : List Thread) (n : ℕ) (old now : List ThreadClock) : Type 0 where
  pub count : length now ≡ length old
  pub before : (j : ℕ) → j < n → thread_at now j ≡ passed turn j (phase_of ts j) (thread_at old j)
  pub behind : (j : ℕ) → n ≤ j → thread_at now j ≡ thread_at old j
  pub forward : time_of old ≤ time_of now

pub none_passed : (turn : Turn) (ts : List Thread) (cs : List ThreadClock) → ArePassedBelow turn ts 0 cs cs
none_passed turn ts cs = record {
  count = refl;
  before = λ j l. absurd (omega arith);
  behind = λ j l. refl;
  forward = omega arith;
}

pub all_passed : (turn : Turn) (ts : List Thread) (n : ℕ) (old now : List ThreadClock) → n ≡ length ts
    → ArePassedBelow turn ts n old now → ArePassed turn ts old now
all_passed turn ts n old now all h =
    record {
      count = h.count;
      each = λ j inside. h.before j (subst (λ (k : ℕ). j < k) (sym all) inside);
      forward = h.forward;
    }

-- one more, which waits for no lock
pub none_more : (turn : Turn) (ts : List Thread) (n : ℕ) (old now : List ThreadClock)
    → wants_lock (phase_of ts n) ≡ false → ArePassedBelow turn ts n old now → ArePassedBelow turn ts (n + 1) old now
none_more turn ts n old now free h =
    record {
      count = h.count;
      before = λ j l.
          ⊎_elim
          (λ (e : j ≡ n). subst (λ (k : ℕ). thread_at now k ≡ passed turn k (phase_of ts k) (thread_at old k)) (sym e)
          (h.behind n (omega arith) ∙ sym
          (cond-false (wants_lock (phase_of ts n)) (let c = thread_at old n in
          record c { clock = max c.clock (first_from turn n) }) (thread_at old n) free)))
          (λ (apart : j ≡ n → ⊥). h.before j (omega arith))
          (cases_eq j n);
      behind = λ j l. h.behind j (omega arith);
      forward = h.forward;
    }

-- one more, which waits for one
pub one_more : (turn : Turn) (ts : List Thread) (n clock : ℕ) (old now new : List ThreadClock) → n < length old
    → wants_lock (phase_of ts n) ≡ true → clock ≡ first_from turn n
    → new ≡ with_clock now n (max (clock_at now n) clock) → ArePassedBelow turn ts n old now
    → ArePassedBelow turn ts (n + 1) old new
one_more turn ts n clock old now new inside wants is made h =
    record {
      count = ap length made ∙ length-set now n c ∙ h.count;
      before = λ j l.
          ⊎_elim
          (λ (e : j ≡ n). subst (λ (k : ℕ). thread_at new k ≡ passed turn k (phase_of ts k) (thread_at old k)) (sym e)
          own)
          (λ (apart : j ≡ n → ⊥). other j apart ∙ h.before j (omega arith))
          (cases_eq j n);
      behind = λ j l. other j (λ (e : j ≡ n). omega (arith, e)) ∙ h.behind j (omega arith);
      forward = later (time_of old) (time_of now) (time_of new) (clock_at now n) clock h.forward
          (ap (λ (ds : List ThreadClock). time_of ds + clock_at now n) made
          ∙ sum_by-set (λ (d : ThreadClock). d.clock) now n c no_thread within);
    }
  where
    c : ThreadClock
    c = let d = thread_at now n in record d { clock = max d.clock clock }

    within : n < length now
    within = subst (λ (k : ℕ). n < k) (sym h.count) inside

    own : thread_at new n ≡ passed turn n (phase_of ts n) (thread_at old n)
    own =
        ap (λ (ds : List ThreadClock). thread_at ds n) made ∙ get_or-set_same now n c no_thread within
        ∙ (λ k. let d = h.behind n (omega arith) k in record d { clock = max d.clock (is k) })
        ∙ sym (cond-true (wants_lock (phase_of ts n)) (let d = thread_at old n in
        record d { clock = max d.clock (first_from turn n) }) (thread_at old n) wants)

    other : (j : ℕ) → (j ≡ n → ⊥) → thread_at new j ≡ thread_at now j
    other j apart = ap (λ (ds : List ThreadClock). thread_at ds j) made ∙ get_or-set_other now n j c no_thread apart

    later : (old now new a b : ℕ) → old ≤ now → new + a ≡ now + max a b → old ≤ new
    later old now new a b le e = omega arith
