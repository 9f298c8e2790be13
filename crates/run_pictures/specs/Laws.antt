-- Internal: no contract of the headline or of a command stands on it.
-- What is said of texts of a run, that they cannot be taken for a part of the page.
use Rattle.std.specs.Prelude.{◌≡◌, ℕ, ◌<◌, ◌&&◌, ◌||◌, Bool, true, false, not, List, [], ◌∷◌}
use Rattle.std.specs.Prelude.{All, codes, nat_le, ◌==◌}
use Rattle.std.specs.List.{list_all, list_any}
use Rattle.run_pictures.specs.Escaped.{escaped}

-- a printable byte of ASCII that is none of `"`, `<` and `>`
abbrev pub is_harmless : ℕ → Bool
is_harmless b = nat_le 32 b && nat_le b 126 && not (b == 34) && not (b == 60) && not (b == 62)

-- a text begins with this word
unfoldable pub begins : List ℕ → List ℕ → Bool
begins [] text = true
begins (b ∷ word) [] = false
begins (b ∷ word) (c ∷ text) = b == c && begins word text

-- the names that HTML has for four bytes, without their `&`
abbrev pub names : List (List ℕ)
names = codes "amp;" ∷ codes "lt;" ∷ codes "gt;" ∷ codes "quot;" ∷ []

-- each `&` of a text begins one of the names
unfoldable pub are_names : List ℕ → Bool
are_names [] = true
are_names (b ∷ text) =
    (not (b == 38) || list_any (λ word. begins word text) names) && are_names text

-- a text that is escaped has harmless bytes alone
abbrev pub EscapedIsHarmless : Type 0
EscapedIsHarmless =
    (bytes : List ℕ) → All (λ b. b < 256) bytes → list_all is_harmless (escaped bytes) ≡ true

-- each `&` of a text that is escaped begins a name
abbrev pub EscapedHasNames : Type 0
EscapedHasNames = (bytes : List ℕ) → All (λ b. b < 256) bytes → are_names (escaped bytes) ≡ true
