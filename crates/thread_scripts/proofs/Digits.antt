-- Digits after a number make it no smaller.
use Rattle.std.proofs.Common.{◌≡◌, ℕ, ◌<◌, ◌+◌, ◌-◌, ◌*◌, List, [], ◌∷◌, length, drop, slice_index_or, None, refl, Bool}
use Rattle.std.proofs.Common.{true, false, if◌then◌else◌, arith}
use Rattle.std.proofs.lemmas.List.{drop_more}
use Rattle.thread_scripts.specs.Numbers.{digits_from, is_digit, up_to}

pub too_great : (limit n : ℕ) (digits : List ℕ) → limit < n → up_to limit (digits_from n digits) ≡ None
too_great limit n [] h = grind arith
too_great limit n (b ∷ digits) h = digit (is_digit b) (too_great limit (10 * n + (b - 48)) digits (omega arith)) where
  digit : (d : Bool) → up_to limit (digits_from (10 * n + (b - 48)) digits) ≡ None
      → up_to limit (if d then digits_from (10 * n + (b - 48)) digits else None) ≡ None
  digit true none = none
  digit false none = refl

-- the same where the next digit makes it too great
pub next_too_great : (limit n : ℕ) (text : List ℕ) (i : ℕ) → i < length text → is_digit (slice_index_or text i 0) ≡ true
    → limit < 10 * n + (slice_index_or text i 0 - 48) → digits_from n (drop i text) ≡ digits_from 0 text
    → up_to limit (digits_from 0 text) ≡ None
next_too_great limit n text i inside digit great same =
    rw (← same) (rw (drop_more text i 0 inside)
    (rw digit (too_great limit (10 * n + (slice_index_or text i 0 - 48)) (drop (i + 1) text) great)))
