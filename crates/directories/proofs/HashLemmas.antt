-- Hashes of components: the same for the same ones.
use Rattle.std.proofs.Common.{◌≡◌, ℕ, zero, suc, ◌+◌, ◌-◌, ◌<◌, List, [], ◌∷◌, take, Bool, true, false, nat_eq, refl}
use Rattle.std.proofs.Common.{sym, ap, ◌∙◌, eq-eqb, add-one, arith}
use Rattle.std.specs.Cmp.Lexicographic.{pointwise}
use Rattle.std.specs.Hash.FoldHasher.{write, finish}
use Rattle.std.specs.declared.hash.FoldHasher.{FoldHasher}
use Rattle.directories.specs.Hashes.{hash_from, hash_of}
use Rattle.directories.proofs.NameLemmas.{same_path_of}

one_more : (hasher : FoldHasher) (rest : List (List ℕ)) (name : List ℕ) (n fewer : ℕ)
    → n ≡ fewer + 1
    → hash_from (write hasher name) (take fewer rest) ≡ hash_from hasher (take n (name ∷ rest))
unfolding hash_from
one_more hasher rest name n fewer is = rw (is, add-one) refl

-- the next component is written
pub hash_from-next : (hasher more : FoldHasher) (left rest : List (List ℕ)) (name : List ℕ)
    (count k : ℕ) → left ≡ name ∷ rest → more ≡ write hasher name → k < count
    → hash_from more (take (count - (k + 1)) rest) ≡ hash_from hasher (take (count - k) left)
hash_from-next hasher more left rest name count k is written inside =
    rw (is, written) (one_more hasher rest name (count - k) (count - (k + 1)) (omega arith))

-- none is left
pub hash_from-end : (hasher : FoldHasher) (left : List (List ℕ)) (n : ℕ) → left ≡ []
    → hash_from hasher (take n left) ≡ finish hasher
unfolding hash_from
hash_from-end hasher left zero is = refl
hash_from-end hasher left (suc n) is = rw is refl

-- as many as were asked for are written
pub hash_from-done : (hasher : FoldHasher) (left : List (List ℕ)) (n : ℕ) → n ≡ 0
    → hash_from hasher (take n left) ≡ finish hasher
unfolding hash_from
hash_from-done hasher left n is = rw is refl

by_test : (b : Bool) → (b ≡ true → false ≡ true) → b ≡ false
by_test true h = sym (h refl)
by_test false h = refl

-- where the hashes differ, so do the components
pub hash_apart : (p q : List (List ℕ)) → nat_eq (hash_of p) (hash_of q) ≡ false
    → pointwise (pointwise nat_eq) p q ≡ false
hash_apart p q apart =
    by_test _ (λ same. sym apart ∙ eq-eqb _ _ (ap hash_of (same_path_of p q same)))

pub ruleset hashing = (hash_from-next, hash_from-end, hash_from-done)
