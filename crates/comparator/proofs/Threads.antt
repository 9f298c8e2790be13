-- Where transcripts differ first, by what counts of their rows.
use Rattle.std.proofs.Common.{◌≡◌, ◌<◌, ◌≤◌, ℕ, List, Some, map, take, length, ap, refl}
use Rattle.std.proofs.lemmas.Option.{slice_get-map, slice_get_past}
use Rattle.std.specs.Prelude.{slice_get}
use Rattle.posix_terms.specs.declared.transcript.Row.{Row}
use Rattle.comparator.specs.Comparison.{DifferFirst, IsFirstDifference}
use Rattle.comparator.proofs.Differing.{none_after, none_before, other_entry}

-- both have this thread, and it saw other rows
pub other_rows : (f : List Row → List Row) (xs ys : List (List Row)) (n row : ℕ) (x y : List Row)
    → map f (take n xs) ≡ map f (take n ys) → slice_get xs n ≡ Some x → slice_get ys n ≡ Some y
    → IsFirstDifference (f x) (f y) row → DifferFirst (map f xs) (map f ys) n row
other_rows f xs ys n row x y before left right first = record {
  threads =
      other_entry f xs ys n x y before left right
      (λ e. first.here (ap (λ rows. slice_get rows row) e));
  rows = rw (slice_get-map f xs n, slice_get-map f ys n, left, right) first;
}

-- the second does not have this thread
pub not_there : (f : List Row → List Row) (xs ys : List (List Row)) (n : ℕ) (x : List Row)
    → map f (take n xs) ≡ map f (take n ys) → slice_get xs n ≡ Some x → length ys ≤ n
    → DifferFirst (map f xs) (map f ys) n 0
not_there f xs ys n x before left past = record {
  threads = none_after f xs ys n x before left past;
  rows = rw (slice_get-map f xs n, slice_get-map f ys n, left, slice_get_past ys n past) refl;
}

-- the first does not have this thread
pub only_there : (f : List Row → List Row) (xs ys : List (List Row)) (n : ℕ)
    → map f (take n xs) ≡ map f (take n ys) → length xs ≤ n → n < length ys
    → DifferFirst (map f xs) (map f ys) n 0
only_there f xs ys n before past within = record {
  threads = none_before f xs ys n before past within;
  rows = rw (slice_get-map f xs n, slice_get_past xs n past) refl;
}
