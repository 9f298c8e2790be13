-- Bytes that are written in hexadecimal digits are read back.
use Rattle.std.proofs.Common.{◌≡◌, ap, ℕ, zero, suc, ◌+◌, ◌*◌, ◌/◌, ◌%◌, ◌<◌, ◌==◌, Bool, true, false, not, ◌&&◌, All}
use Rattle.std.proofs.Common.{List, [], ◌∷◌, length, slice_index, Option, Some, None, Ok, refl, arith}
use Rattle.std.specs.List.{list_all}
use Rattle.std.proofs.lemmas.Bool.{eqb-false, eqb-true}
use Rattle.std.proofs.lemmas.List.Elements.{All-tail, All-head}
use Rattle.hex.specs.Hex.{decode_of, decode_pairs, encode_lower, encode_with, hex_digit_value, lower_digits}
use Rattle.expectations.specs.Laws.{IsByte}
use Rattle.expectations.proofs.Numerals.{both_true}

-- a test of each number below n
below : ℕ → (ℕ → Bool) → Bool
below zero test = true
below (suc n) test = test n && below n test

each_below : (n : ℕ) (test : ℕ → Bool) → below n test ≡ true → (d : ℕ) → d < n → test d ≡ true
unfolding below
each_below zero test all d less = absurd (omega arith)
each_below (suc n) test all d less = at (d == n) refl (each_below n test (both_true (test n) (below n test) all).1 d)
  where
    at : (same : Bool) → (d == n) ≡ same → (d < n → test d ≡ true) → test d ≡ true
    at true same smaller = rw (eqb-true d n same) (both_true (test n) (below n test) all).0
    at false other smaller = let apart : d ≡ n → ⊥ = eqb-false d n other in smaller (omega arith)

is_value : Option ℕ → ℕ → Bool
is_value None d = false
is_value (Some v) d = v == d

is_value_is : (v : Option ℕ) (d : ℕ) → is_value v d ≡ true → v ≡ Some d
unfolding is_value
is_value_is None d same = cc
is_value_is (Some v) d same = ap Some (eqb-true v d same)

-- a sixteenth digit has its value
digit_back : (d : ℕ) → d < 16 → hex_digit_value (slice_index lower_digits d) ≡ Some d
unfolding below is_value
digit_back d less = is_value_is (hex_digit_value (slice_index lower_digits d)) d
    (each_below 16 (λ d. is_value (hex_digit_value (slice_index lower_digits d)) d) refl d less)

-- a byte that is no space, no `-` and no `_`
abbrev pub is_plain : ℕ → Bool
is_plain b = not (b == 32) && not (b == 45) && not (b == 95)

digit_plain : (d : ℕ) → d < 16 → is_plain (slice_index lower_digits d) ≡ true
unfolding below
digit_plain d less = each_below 16 (λ d. is_plain (slice_index lower_digits d)) refl d less

-- the digits of bytes, from the first at index i on
pub record AreHex (bytes digits : List ℕ) : Type 0 where
  pub plain : list_all is_plain digits ≡ true
  pub long : length digits ≡ 2 * length bytes
  pub value : (i : ℕ) → decode_pairs i digits ≡ Ok bytes

pub hex_back : (bytes : List ℕ) → All IsByte bytes → AreHex bytes (encode_lower bytes)
unfolding encode_with decode_pairs
hex_back [] all = record { plain = refl; long = refl; value = λ i. refl }
hex_back (b ∷ bytes) all =
    let byte : b < 256 = All-head IsByte b bytes all in
    let high : b / 16 < 16 = omega arith in
    let low : b % 16 < 16 = omega arith in
    let whole : b / 16 * 16 + b % 16 ≡ b = omega arith in
    let rest = hex_back bytes (All-tail IsByte b bytes all) in
    record {
      plain = rw (digit_plain (b / 16) high, digit_plain (b % 16) low, rest.plain) refl;
      long = omega (arith, rest.long);
      value = λ i. rw (digit_back (b / 16) high, digit_back (b % 16) low, rest.value (i + 2), whole) refl;
    }

pub decode_back : (bytes : List ℕ) → All IsByte bytes → decode_of (encode_lower bytes) ≡ Ok bytes
decode_back bytes all =
    let hex = hex_back bytes all in
    let even : length (encode_lower bytes) % 2 ≡ 0 = omega (arith, hex.long) in
    rw (even, hex.value 0) refl
