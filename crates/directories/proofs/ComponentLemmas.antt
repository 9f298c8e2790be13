-- The components of a path, one after another.
use Rattle.std.proofs.Common.{◌≡◌, ℕ, zero, suc, ◌+◌, ◌-◌, ◌&&◌, nat_eq, ◌<◌, ◌≤◌, ◌==◌, List, [], ◌∷◌, length, take}
use Rattle.std.proofs.Common.{drop, Bool, true, false, not, cond, Option, Some, None, refl, sym, ap, ◌∙◌, subst, arith}
use Rattle.std.proofs.lemmas.Bool.Decides.{nat_tests}
use Rattle.std.proofs.lemmas.List.Splits.{slice_split_first}
use Rattle.std.proofs.lemmas.Option.{same_Some, none-some}
use Rattle.std.specs.Cmp.Lexicographic.{pointwise}
use Rattle.std.specs.List.{slice_split, position_or_len}
use Rattle.std.specs.Prelude.{nat_lt, position, filter}
use Rattle.sequential_object.specs.Paths.{slash, components_of}

found_at : (b : Bool) (n at : ℕ) → ◌≡◌ {A = Option ℕ} (cond b (Some n) None) (Some at) → (b ≡ true) × (n ≡ at)
found_at true n at e = (refl, same_Some _ _ e)
found_at false n at e = absurd (none-some _ e)

not_found : (b : Bool) (n : ℕ) → ◌≡◌ {A = Option ℕ} (cond b (Some n) None) None → b ≡ false
not_found true n e = absurd (none-some _ (sym e))
not_found false n e = refl

below : (m n : ℕ) → nat_lt m n ≡ true → m < n
below m n e = grind (arith, nat_tests)

not_below : (m n : ℕ) → nat_lt m n ≡ false → n ≤ m
not_below m n e = grind (arith, nat_tests)

-- what `position` of a slash says
splits_at : (text : List ℕ) (at : ℕ) → position (λ b. b == slash) text ≡ Some at
    → slice_split (λ b. b == slash) text ≡ take at text ∷ slice_split (λ b. b == slash) (drop (at + 1) text)
splits_at text at e =
    let parts = found_at (nat_lt (position_or_len (λ b. b == slash) text) (length text))
    (position_or_len (λ b. b == slash) text) at e in
    subst (λ (n : ℕ). slice_split (λ b. b == slash) text ≡ take n text
    ∷ slice_split (λ b. b == slash) (drop (n + 1) text)) parts.1
    (slice_split_first (λ b. b == slash) text 0 (below _ _ parts.0))

none_splits : (text : List ℕ) → length text ≤ position_or_len (λ b. b == slash) text
    → slice_split (λ b. b == slash) text ≡ text ∷ []
none_splits [] h = refl
none_splits (x ∷ xs) h = by_head (x == slash) refl (none_splits xs)
  where
    by_head : (b : Bool) → (x == slash) ≡ b
        → (length xs ≤ position_or_len (λ b. b == slash) xs → slice_split (λ b. b == slash) xs ≡ xs ∷ [])
        → slice_split (λ b. b == slash) (x ∷ xs) ≡ (x ∷ xs) ∷ []
    by_head true e rest = let g = rw e at h in absurd (omega arith)
    by_head false e rest = let g = rw e at h in rw (e, rest (omega arith)) refl

abbrev kept : List (List ℕ) → List (List ℕ)
kept pieces = filter (λ piece. not (length piece == 0)) pieces

kept-empty : (piece : List ℕ) (pieces : List (List ℕ)) → length piece ≡ 0 → kept (piece ∷ pieces) ≡ kept pieces
kept-empty [] pieces h = refl
kept-empty (x ∷ xs) pieces h = absurd (omega arith)

not_zero : (n : ℕ) → 0 < n → (n == 0) ≡ false
not_zero n h = grind (arith, nat_tests)

kept-more : (piece : List ℕ) (pieces : List (List ℕ)) → 0 < length piece → kept (piece ∷ pieces) ≡ piece ∷ kept pieces
kept-more piece pieces h = rw (not_zero (length piece) h) refl

-- a slash at the front is passed
pub components-slash : (text : List ℕ) (at : ℕ) → position (λ b. b == slash) text ≡ Some at → length (take at text) ≡ 0
    → components_of text ≡ components_of (drop (at + 1) text)
components-slash text at e h = ap kept (splits_at text at e)
    ∙ kept-empty (take at text) (slice_split (λ b. b == slash) (drop (at + 1) text)) h

-- the first component ends at the first slash
pub components-name : (text : List ℕ) (at : ℕ) → position (λ b. b == slash) text ≡ Some at → 0 < length (take at text)
    → components_of text ≡ take at text ∷ components_of (drop (at + 1) text)
components-name text at e h = ap kept (splits_at text at e)
    ∙ kept-more (take at text) (slice_split (λ b. b == slash) (drop (at + 1) text)) h

-- the last one ends with the text
pub components-last : (text : List ℕ) → position (λ b. b == slash) text ≡ None → 0 < length text
    → components_of text ≡ text ∷ components_of []
components-last text e h = ap kept (none_splits text (not_below _ _ (not_found _ _ e))) ∙ kept-more text [] h

pub none_of : (o : Option ℕ) → ((x : ℕ) → o ≡ Some x → ⊥) → o ≡ None
none_of None h = refl
none_of (Some x) h = absurd (h x refl)

pub components-empty : (text : List ℕ) → length text ≡ 0 → components_of text ≡ []
components-empty [] h = refl
components-empty (x ∷ xs) h = absurd (omega arith)

pub ruleset components = (components-slash, components-name, components-last, components-empty)

abbrev same : List (List ℕ) → List (List ℕ) → Bool
same = pointwise (pointwise nat_eq)

pub same-step : (a b : List (List ℕ)) (x y : List ℕ) (xs ys : List (List ℕ)) (n : ℕ) → a ≡ x ∷ xs → b ≡ y ∷ ys → 0 < n
    → pointwise (pointwise nat_eq) a (take n b)
    ≡ (pointwise nat_eq x y && pointwise (pointwise nat_eq) xs (take (n - 1) ys))
same-step a b x y xs ys zero e f h = absurd (omega arith)
same-step a b x y xs ys (suc n) e f h =
    rw (e, f) (ap (λ (m : ℕ). pointwise nat_eq x y && same xs (take m ys)) (omega arith))

pub same-end : (a b : List (List ℕ)) (n : ℕ) → a ≡ [] → b ≡ [] → pointwise (pointwise nat_eq) a (take n b) ≡ true
same-end a b zero e f = rw e refl
same-end a b (suc n) e f = rw (e, f) refl

pub same-longer : (a b : List (List ℕ)) (x : List ℕ) (xs : List (List ℕ)) (n : ℕ) → a ≡ x ∷ xs → b ≡ []
    → pointwise (pointwise nat_eq) a (take n b) ≡ false
same-longer a b x xs zero e f = rw e refl
same-longer a b x xs (suc n) e f = rw (e, f) refl

pub same-shorter : (a b : List (List ℕ)) (y : List ℕ) (ys : List (List ℕ)) (n : ℕ) → a ≡ [] → b ≡ y ∷ ys → 0 < n
    → pointwise (pointwise nat_eq) a (take n b) ≡ false
same-shorter a b y ys zero e f h = absurd (omega arith)
same-shorter a b y ys (suc n) e f h = rw (e, f) refl

pub same-none : (a b : List (List ℕ)) → a ≡ [] → pointwise (pointwise nat_eq) a (take 0 b) ≡ true
same-none a b e = rw e refl

pub same-some : (a b : List (List ℕ)) (x : List ℕ) (xs : List (List ℕ)) → a ≡ x ∷ xs
    → pointwise (pointwise nat_eq) a (take 0 b) ≡ false
same-some a b x xs e = rw e refl

pub ruleset prefixes = (same-step, same-end, same-longer, same-shorter, same-none, same-some)
