-- Believed: a contract of the command line stands on it.
-- The seeds that are asked for.
use Rattle.std.specs.Prelude.{◌≡◌, ◌<◌, ◌++◌, ℕ, List, codes}
use Rattle.std.specs.Str.Parse.{IsNumeral, digits_value, without_leading_plus}

-- the text is this number, in decimal digits, where a plus may stand first
abbrev pub IsNumber : List ℕ → ℕ → Type 0
IsNumber text n = IsNumeral 10 (without_leading_plus text)
    × (n ≡ digits_value 10 (without_leading_plus text))

-- the text is these two numbers with two dots between them, and the first is the smaller one
abbrev pub AreSeeds : List ℕ → ℕ → ℕ → Type 0
AreSeeds text first end = (first < end) × ((a : List ℕ) × (b : List ℕ)
    × (text ≡ a ++ (codes ".." ++ b)) × IsNumber a first × IsNumber b end)
