-- Lists whose items agree, place by place.
use Rattle.std.proofs.Common.{◌≡◌, ℕ, zero, suc, ◌<◌, List, [], ◌∷◌, length, map, get_or, set, refl, ap, ap₂, arith}

pub maps_agree : {A B C : Type 0} (f : A → C) (g : B → C) (xs : List A) (ys : List B) (d : A) (e : B)
    → length xs ≡ length ys → ((k : ℕ) → f (get_or xs k d) ≡ g (get_or ys k e)) → map f xs ≡ map g ys
maps_agree f g [] [] d e same h = refl
maps_agree f g [] (y ∷ ys) d e same h = cc
maps_agree f g (x ∷ xs) [] d e same h = cc
maps_agree f g (x ∷ xs) (y ∷ ys) d e same h = let rest : length xs ≡ length ys = cc in
    ap₂ ◌∷◌ (h 0) (maps_agree f g xs ys d e rest (λ k. h (suc k)))

pub set_same : {A : Type 0} (xs : List A) (i : ℕ) (d : A) → i < length xs → set xs i (get_or xs i d) ≡ xs
set_same [] i d h = absurd (omega arith)
set_same (x ∷ xs) zero d h = refl
set_same (x ∷ xs) (suc i) d h = ap (λ (l : List _). x ∷ l) (set_same xs i d (omega arith))
