-- Words that are too few or too many for a work.
use Rattle.std.proofs.Common.{◌≡◌, ◌≢◌, ℕ, List, [], ◌∷◌, length, map, Bor, refl}
use Rattle.minimiser.specs.Parts.{operand_of}

pub other : (words : List (Bor (List ℕ))) → length words ≢ 2
    → 0 ≡ operand_of (map (λ w. w.now) words)
other [] differ = refl
other (a ∷ []) differ = refl
other (a ∷ b ∷ []) differ = absurd (differ refl)
other (a ∷ b ∷ d ∷ rest) differ = refl
