-- The first record that was not used.
use Rattle.input_log.specs.declared.fixed.Due.{Due}
use Rattle.std.proofs.Common.{◌≡◌, ℕ, zero, suc, ◌+◌, ◌-◌, ◌<◌, ◌≤◌, Bool, true, false, cond, List, [], ◌∷◌, ◌++◌}
use Rattle.std.proofs.Common.{Option, Some, None, refl, sym, ap, ◌∙◌, subst, append_assoc, arith}
use Rattle.std.proofs.lemmas.Bool.{eqb-true}
use Rattle.std.proofs.lemmas.List.{append-nil}
use Rattle.std.proofs.lemmas.List.Sums.{sum_by-append}
use Rattle.std.specs.Prelude.{nat_lt, ◌&&◌, ◌==◌}
use Rattle.posix_terms.specs.declared.limits.TheConstants.Limits as limit
use Rattle.input_log.specs.Format.{fixed_of}
use Rattle.input_log.specs.Grammar.{AreGood, good, number_of, due_of}
use Rattle.input_log.specs.declared.log.Header.{Header}
use Rattle.input_log.specs.declared.log.Record.{Record}
use Rattle.posix_terms.specs.declared.transcript.HistoryRow.{HistoryRow}
use Rattle.replayer.specs.Outcomes.{came_for, first_or, first_unused, unused_at}

stays : (d n : ℕ) (records : List Record) (rows : List HistoryRow) (found : ℕ × ℕ)
    → first_unused n records rows ≡ Some found → first_unused (d + n) records rows ≡ Some found
stays zero n records rows found is =
    let same : n ≡ 0 + n = omega arith in
    subst (λ (k : ℕ). first_unused k records rows ≡ Some found) same is
stays (suc d) n records rows found is =
    let same : suc (d + n) ≡ suc d + n = omega arith in
    let more : first_unused (suc (d + n)) records rows ≡ Some found =
    ap (λ (o : Option (ℕ × ℕ)). first_or o (unused_at (d + n) (came_for (d + n) rows) (number_of (d + n) records)))
    (stays d n records rows found is) in
    subst (λ (k : ℕ). first_unused k records rows ≡ Some found) same more

at_once : (thread came records : ℕ) → came < records → unused_at thread came records ≡ Some (thread, came)
at_once thread came records less = grind (arith, less)

-- of these threads the first that has a record that was not used
pub found : (threads thread came count : ℕ) (records : List Record) (rows : List HistoryRow) → thread < threads
    → first_unused thread records rows ≡ None
    → came ≡ came_for thread rows → count ≡ number_of thread records → came < count
    → first_unused threads records rows ≡ Some (thread, came)
found threads thread came count records rows inside none is_came is_count less =
    let here : first_unused (suc thread) records rows ≡ Some (thread, came) =
    ap (λ (o : Option (ℕ × ℕ)). first_or o (unused_at thread (came_for thread rows) (number_of thread records))) none
    ∙ ap (λ (c : ℕ). unused_at thread c (number_of thread records)) (sym is_came)
    ∙ ap (λ (c : ℕ). unused_at thread came c) (sym is_count)
    ∙ at_once thread came count less in
    let far : threads - suc thread + suc thread ≡ threads = omega (arith, inside) in
    subst (λ (n : ℕ). first_unused n records rows ≡ Some (thread, came)) far
    (stays (threads - suc thread) (suc thread) records rows (thread, came) here)

one_below : (n came records t m : ℕ) (b : Bool) → nat_lt came records ≡ b → unused_at n came records ≡ Some (t, m)
    → (n ≡ t) × (m < records)
one_below n came records t m true less is = grind (arith, less, is)
one_below n came records t m false less is = grind (arith, less, is)

-- it is one of that thread's records
pub below : (n : ℕ) (records : List Record) (rows : List HistoryRow) (t m : ℕ)
    → first_unused n records rows ≡ Some (t, m) → m < number_of t records
below zero records rows t m is = absurd (cc)
below (suc n) records rows t m is = split (below n records rows t m) (first_unused n records rows) refl is
  where
    split : (first_unused n records rows ≡ Some (t, m) → m < number_of t records) → (o : Option (ℕ × ℕ))
        → first_unused n records rows ≡ o
        → first_or o (unused_at n (came_for n rows) (number_of n records)) ≡ Some (t, m) → m < number_of t records
    split before (Some found) same is = before (same ∙ is)
    split before None same is =
        let one = one_below n (came_for n rows) (number_of n records) t m
        (nat_lt (came_for n rows) (number_of n records)) refl is in
        subst (λ (k : ℕ). m < number_of k records) one.0 one.1

second_and_third : (a b c d e f g i : Bool) → (a && b && c && d && e && f && g && i) ≡ true → (b ≡ true) × (c ≡ true)
second_and_third a b c d e f g i h = (grind (arith, h), grind (arith, h))

-- a good record has the number that is due, and that is small
good_due : (header : Header) (due : Due) (r : Record) → good header due (fixed_of r) ≡ true → due.number < 134217728
unfolding good
good_due header due r ok =
    let h = second_and_third (nat_lt r.thread header.threads) (r.number == due.number) (nat_lt r.number limit.OUTCOMES)
    _ _ _ _ _ ok in
    grind (arith, h.0, h.1)

-- so each thread of a log has few records
few : (header : Header) (t : ℕ) (before rs : List Record) → number_of t before ≤ 134217728 → AreGood header before rs
    → number_of t (before ++ rs) ≤ 134217728
few header t before [] low all = rw (append-nil before) low
few header t before (r ∷ rs) low all =
    let push : number_of t (before ++ r ∷ []) ≡ number_of t before + cond (r.thread == t) 1 0 =
    sum_by-append (λ (q : Record). cond (q.thread == t) 1 0) before (r ∷ [])
    ∙ ap (λ (n : ℕ). number_of t before + n) (omega arith) in
    let next : number_of t (before ++ r ∷ []) ≤ 134217728 = rw push (by_thread (r.thread == t) refl) in
    rw (append_assoc before (r ∷ []) rs) at (few header t (before ++ r ∷ []) rs next all.1)
  where
    by_thread : (b : Bool) → (r.thread == t) ≡ b → number_of t before + cond b 1 0 ≤ 134217728
    by_thread true e =
        let due : number_of t before < 134217728 = subst (λ (u : ℕ). number_of u before < 134217728)
        (eqb-true r.thread t e) (good_due header (due_of r.thread before) r all.0) in
        omega (arith, due)
    by_thread false e = omega (arith, low)

-- and so its number has 32 bits
pub number_fits : (header : Header) (n : ℕ) (records : List Record) (rows : List HistoryRow) (t m : ℕ)
    → AreGood header [] records → first_unused n records rows ≡ Some (t, m) → m < 4294967296
number_fits header n records rows t m good is =
    omega (arith, below n records rows t m is, few header t [] records (omega arith) good)
