-- What was replaced of the byte registers leads back to what they held first.
use Rattle.std.proofs.Common.{◌≡◌, ℕ, zero, suc, ◌<◌, List, [], ◌∷◌, Option, Some, None, length, refl, ap, arith}
use Rattle.std.specs.Prelude.{slice_index_or, slice_set, unwrap_or}
use Rattle.thread_scripts.specs.Saving.{also_replaced, registers_before}

pub registers_are_kept : (saved : List (Option (List ℕ))) (registers : List (List ℕ)) (k : ℕ) (d new : List ℕ)
    → k < length saved
    → registers_before (also_replaced k (slice_index_or registers k d) saved) (slice_set registers k new)
    ≡ registers_before saved registers
unfolding registers_before
registers_are_kept [] registers k d new h = absurd (omega arith)
registers_are_kept (held ∷ saved) [] zero d new h = refl
registers_are_kept (held ∷ saved) [] (suc k) d new h = refl
registers_are_kept (None ∷ saved) (r ∷ registers) zero d new h = refl
registers_are_kept (Some b ∷ saved) (r ∷ registers) zero d new h = refl
registers_are_kept (held ∷ saved) (r ∷ registers) (suc k) d new h =
    ap (λ rest. unwrap_or held r ∷ rest) (registers_are_kept saved registers k d new (omega arith))

pub none_is_replaced : (registers : List (List ℕ)) → registers_before (None ∷ None ∷ None ∷ None ∷ []) registers
    ≡ registers
unfolding registers_before
none_is_replaced [] = refl
none_is_replaced (a ∷ []) = refl
none_is_replaced (a ∷ b ∷ []) = refl
none_is_replaced (a ∷ b ∷ c ∷ []) = refl
none_is_replaced (a ∷ b ∷ c ∷ d ∷ registers) = refl
