-- That a text is read in one way.
use Rattle.std.proofs.Common.{◌≡◌, ◌∙◌, ap, ℕ, zero, suc, ◌+◌, ◌<◌, List, [], ◌∷◌, length, map, filter_map, Option}
use Rattle.std.proofs.Common.{Some, None, Result, Ok, Err, refl, sym, arith, add-zero, zero-add}
use Rattle.std.specs.List.{cons_option, range_with_len}
use Rattle.expectations.specs.Expected.{AreExpectations, IsFirstBad, expected_at}
use Rattle.expectations.specs.declared.expected.Expectation.{Expectation}
use Rattle.expectations.specs.declared.fault.Reason.{Reason}

same_good : (es fs : List Expectation) → map (λ e. let r : Result Expectation Reason = Ok e in r) es
    ≡ map (λ e. Ok e) fs → es ≡ fs
same_good [] [] same = refl
same_good [] (f ∷ fs) same = cc
same_good (e ∷ es) [] same = cc
same_good (e ∷ es) (f ∷ fs) same =
    let rest : map (λ e. let r : Result Expectation Reason = Ok e in r) es ≡ map (λ e. Ok e) fs = cc in
    let more : es ≡ fs = same_good es fs rest in
    cc

pub one_list : (texts : List (List ℕ)) (es fs : List Expectation) → AreExpectations texts es → AreExpectations texts fs
    → es ≡ fs
one_list texts es fs some others = same_good es fs (sym some ∙ others)

-- a bad one among those that are all good
bad_among : (f : ℕ → Option (Result Expectation Reason)) (why : Reason) (a n k : ℕ) (es : List Expectation) → k < n
    → f (a + k) ≡ Some (Err why) → filter_map f (range_with_len a n) ≡ map (λ e. Ok e) es → ⊥
bad_among f why a zero k es inside bad good = omega arith
bad_among f why a (suc n) zero es inside bad good =
    let here : f a ≡ Some (Err why) = rw add-zero at bad in
    first es (rw here at good) where
      first : (es : List Expectation) → Err why ∷ filter_map f (range_with_len (a + 1) n) ≡ map (λ e. Ok e) es → ⊥
      first [] same = cc
      first (e ∷ es) same = cc
bad_among f why a (suc n) (suc k) es inside bad good =
    let next : a + suc k ≡ a + 1 + k = omega arith in
    at (f a) good (λ es rest. bad_among f why (a + 1) n k es (omega arith) (rw next at bad) rest) where
      at : (given : Option (Result Expectation Reason)) → cons_option given (filter_map f (range_with_len (a + 1) n))
          ≡ map (λ e. Ok e) es
          → ((es : List Expectation) → filter_map f (range_with_len (a + 1) n) ≡ map (λ e. Ok e) es → ⊥) → ⊥
      at None same others = others es same
      at (Some one) same others = split es same where
        split : (es : List Expectation) → one ∷ filter_map f (range_with_len (a + 1) n) ≡ map (λ e. Ok e) es → ⊥
        split [] same = cc
        split (e ∷ es) same = let rest : filter_map f (range_with_len (a + 1) n) ≡ map (λ e. Ok e) es = cc in
            others es rest

pub not_both : (texts : List (List ℕ)) (es : List Expectation) (k : ℕ) (why : Reason) → AreExpectations texts es
    → IsFirstBad texts k why → ⊥
not_both texts es k why good first = bad_among (expected_at texts) why 0 (length texts) k es first.inside
    (rw (zero-add k) first.bad) good

pub one_bad : (texts : List (List ℕ)) (j k : ℕ) (one other : Reason) → IsFirstBad texts j one → IsFirstBad texts k other
    → (j ≡ k) × (one ≡ other)
one_bad texts j k one other first second =
    let low : j < k → ⊥ = λ less. second.good j less one first.bad in
    let high : k < j → ⊥ = λ less. first.good k less other second.bad in
    let place : j ≡ k = omega arith in
    let both : Some (Err one) ≡ Some (Err other) = sym first.bad ∙ ap (expected_at texts) place ∙ second.bad in
    (place, cc)
