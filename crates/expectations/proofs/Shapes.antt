-- Operands that are too few or too many.
use Rattle.std.proofs.Common.{◌≡◌, ℕ, ◌<◌, List, [], ◌∷◌, length, map, Bor, None, refl, arith}
use Rattle.expectations.specs.Words.{pair_pattern}

pub pair_short : (operands : List (Bor (List ℕ))) → length operands < 2
    → None ≡ pair_pattern (map (λ w. w.now) operands)
pair_short [] few = refl
pair_short (a ∷ []) few = refl
pair_short (a ∷ b ∷ rest) few = absurd (omega arith)

pub pair_long : (operands : List (Bor (List ℕ))) → 2 < length operands
    → None ≡ pair_pattern (map (λ w. w.now) operands)
pair_long [] many = refl
pair_long (a ∷ []) many = refl
pair_long (a ∷ b ∷ []) many = absurd (omega arith)
pair_long (a ∷ b ∷ d ∷ rest) many = refl
