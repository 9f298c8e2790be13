-- The first difference of two lists, by what counts of their entries.
use Rattle.std.proofs.Common.{◌≡◌, ◌≢◌, ◌<◌, ◌≤◌, ℕ, Bool, true, false, List, Some, MatchOption}
use Rattle.std.proofs.Common.{map, take, length, nat_lt, refl, arith, rules}
use Rattle.std.proofs.lemmas.Grind.{common_steps}
use Rattle.std.proofs.lemmas.List.{take-map}
use Rattle.std.proofs.lemmas.Option.{slice_get-map, slice_get_cases, slice_get_past}
use Rattle.std.specs.Bool.{then_some}
use Rattle.std.specs.Prelude.{option_map, slice_get}
use Rattle.comparator.specs.Comparison.{IsFirstDifference}

-- what counts agrees before this place, and here it does not
first_by : {X Y : Type 0} (f : X → Y) (xs ys : List X) (n : ℕ)
    → map f (take n xs) ≡ map f (take n ys)
    → option_map f (slice_get xs n) ≢ option_map f (slice_get ys n)
    → IsFirstDifference (map f xs) (map f ys) n
first_by f xs ys n before here = record {
  before = rw (take-map f n xs, take-map f n ys) before;
  here = rw (slice_get-map f xs n, slice_get-map f ys n) here;
}

-- here are two entries of which something else counts
pub other_entry : {X Y : Type 0} (f : X → Y) (xs ys : List X) (n : ℕ) (x y : X)
    → map f (take n xs) ≡ map f (take n ys)
    → slice_get xs n ≡ Some x → slice_get ys n ≡ Some y → f x ≢ f y
    → IsFirstDifference (map f xs) (map f ys) n
other_entry f xs ys n x y before left right other =
    first_by f xs ys n before (rw (left, right) (λ e. other (grind (arith, common_steps, e))))

-- the second has no entry here
pub none_after : {X Y : Type 0} (f : X → Y) (xs ys : List X) (n : ℕ) (x : X)
    → map f (take n xs) ≡ map f (take n ys) → slice_get xs n ≡ Some x → length ys ≤ n
    → IsFirstDifference (map f xs) (map f ys) n
none_after f xs ys n x before left past =
    first_by f xs ys n before (rw (left, slice_get_past ys n past) (λ e. grind (arith, e)))

-- the first has no entry here
pub none_before : {X Y : Type 0} (f : X → Y) (xs ys : List X) (n : ℕ)
    → map f (take n xs) ≡ map f (take n ys) → length xs ≤ n → n < length ys
    → IsFirstDifference (map f xs) (map f ys) n
none_before f xs ys n before past within =
    first_by f xs ys n before
    (rw (slice_get_past xs n past)
    (λ e. grind (arith, common_steps, e, within, slice_get_cases ys n)))

-- neither goes on here, so what counts is the same
none_after_both : {X Y : Type 0} (f : X → Y) (xs ys : List X)
    → map f (take (length xs) xs) ≡ map f (take (length xs) ys) → length ys ≤ length xs
    → map f xs ≡ map f ys
none_after_both f xs ys before past = grind (arith, common_steps, before)

-- at the end of the first the second goes on, or what counts is the same
ends_as : {X Y : Type 0} (f : X → Y) (xs ys : List X)
    → map f (take (length xs) xs) ≡ map f (take (length xs) ys)
    → (b : Bool) → nat_lt (length xs) (length ys) ≡ b
    → MatchOption (then_some b (length xs)) (map f xs ≡ map f ys)
    (λ n. IsFirstDifference (map f xs) (map f ys) n)
ends_as f xs ys before false h = none_after_both f xs ys before (search rules)
ends_as f xs ys before true h = none_before f xs ys (length xs) before (omega arith) (search rules)

pub ends_by : {X Y : Type 0} (f : X → Y) (xs ys : List X)
    → map f (take (length xs) xs) ≡ map f (take (length xs) ys)
    → MatchOption (then_some (nat_lt (length xs) (length ys)) (length xs)) (map f xs ≡ map f ys)
    (λ n. IsFirstDifference (map f xs) (map f ys) n)
ends_by f xs ys before = ends_as f xs ys before (nat_lt (length xs) (length ys)) refl
