-- A list is sorted by what is seen of its elements.
use Rattle.std.proofs.Common.{◌+◌, ◌<◌, Bool, List, [], ◌∷◌, length, map, arith}
use Rattle.std.proofs.lemmas.List.{get_or-map, length-map}
use Rattle.std.specs.List.Sorted.{IsSortedBy}

pub sorted_map : {X Y : Type 0} (f : X → Y) (lt : Y → Y → Bool) (xs : List X)
    → IsSortedBy (λ x y. lt (f x) (f y)) xs → IsSortedBy lt (map f xs)
sorted_map f lt [] up k d low high = absurd (omega arith)
sorted_map f lt (x ∷ xs) up k d low high =
    let inside : k + 1 < length (x ∷ xs) = rw length-map at high in
    let here : k < length (x ∷ xs) = omega arith in
    rw (get_or-map f (x ∷ xs) (k + 1) x d inside, get_or-map f (x ∷ xs) k x d here)
    (up k x low inside)
