-- Believed: a contract of a command stands on it.
-- Decimal numbers, and the numbers of registers.
use Rattle.std.specs.Prelude.{ℕ, ◌+◌, ◌-◌, ◌*◌, ◌^◌, Bool, not, ◌&&◌, ◌||◌, List, [], ◌∷◌, length}
use Rattle.std.specs.Prelude.{slice_index, nat_le, ◌==◌, if◌then◌else◌, ℤ, pos, neg_ℤ, Option, Some}
use Rattle.std.specs.Prelude.{None, option_map}

-- `0` to `9`
abbrev pub is_digit : ℕ → Bool
is_digit b = nat_le 48 b && nat_le b 57

-- the value of more digits after those of n
abbrev pub digits_from : ℕ → List ℕ → Option ℕ
digits_from n [] = Some n
digits_from n (b ∷ digits) = if is_digit b then digits_from (10 * n + (b - 48)) digits else None

-- the value of one or more digits, leading zeros allowed
abbrev pub natural_of : List ℕ → Option ℕ
natural_of text = if length text == 0 then None else digits_from 0 text

-- the number, if it is not above the limit
abbrev pub up_to : ℕ → Option ℕ → Option ℕ
up_to limit None = None
up_to limit (Some n) = if nat_le n limit then Some n else None

-- the negative of a number
abbrev pub minus : ℕ → ℤ
minus n = neg_ℤ (pos n)

-- the value of a decimal number of 64 bits: digits after an optional minus sign
abbrev pub number_of : List ℕ → Option ℤ
number_of [] = None
number_of (b ∷ digits) =
    if b == 45 then option_map minus (up_to (2 ^ 63) (natural_of digits))
    else option_map pos (up_to (2 ^ 63 - 1) (natural_of (b ∷ digits)))

-- the value of digits without a leading zero, but for `0` itself
abbrev pub index_of : List ℕ → Option ℕ
index_of digits = if length digits == 1 || not (slice_index digits 0 == 48) then natural_of digits
    else None

-- the number of a register: its letter and at most this number
abbrev pub register_named : ℕ → ℕ → List ℕ → Option ℕ
register_named letter greatest [] = None
register_named letter greatest (b ∷ digits) = if b == letter then up_to greatest (index_of digits)
    else None

-- `r0` to `r15`
unfoldable pub register_of : List ℕ → Option ℕ
register_of word = register_named 114 15 word

-- `b0` to `b3`
unfoldable pub byte_register_of : List ℕ → Option ℕ
byte_register_of word = register_named 98 3 word
