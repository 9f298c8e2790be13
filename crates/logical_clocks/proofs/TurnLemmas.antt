-- Lemmas on the tests of the threads below a number.
use Rattle.std.proofs.Common.{◌≡◌, ℕ, zero, suc, ◌<◌, None, Some, Bool, true, false, ◌&&◌, inl, inr, refl, sym, ap}
use Rattle.std.proofs.Common.{subst, arith}
use Rattle.std.proofs.lemmas.Bool.{cases_eq}
use Rattle.logical_clocks.specs.TurnOrder.{all_below, first_below}

not_both : (a b : Bool) → b ≡ false → (a && b) ≡ false
not_both true b e = e
not_both false b e = refl

-- one test that fails is enough
pub all_below_not : (n k : ℕ) (p : ℕ → Bool) → k < n → p k ≡ false → all_below n p ≡ false
all_below_not zero k p below not = absurd (omega arith)
all_below_not (suc n) k p below not =
    elim (cases_eq k n) [
      | inl e ↦ let last : p n ≡ false = subst (λ (j : ℕ). p j ≡ false) e not in rw last refl
      | inr e ↦ not_both (p n) (all_below n p) (all_below_not n k p (omega arith) not)
    ]

-- the first number that passes
pub first_below_found : (n k : ℕ) (p : ℕ → Bool) → k < n → first_below k p ≡ None → p k ≡ true
    → first_below n p ≡ Some k
unfolding first_below
first_below_found zero k p below none here = absurd (omega arith)
first_below_found (suc n) k p below none here =
    elim (cases_eq k n) [
      | inl e ↦
          let before : first_below n p ≡ None = subst (λ (j : ℕ). first_below j p ≡ None) e none in
          let last : p n ≡ true = subst (λ (j : ℕ). p j ≡ true) e here in
          rw (before, last) (ap Some (sym e))
      | inr e ↦ rw (first_below_found n k p (omega arith) none here) refl
    ]
