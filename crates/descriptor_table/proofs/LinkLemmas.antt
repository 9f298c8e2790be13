-- How many names a file has, in the table and in the state.
use Rattle.std.proofs.Common.{◌≡◌, ℕ, ◌+◌, ◌==◌, ◌||◌, List, [], ◌∷◌, map, Some, Bool, true, false, cond, not, count_by}
use Rattle.std.proofs.Common.{sym, ap, ◌∙◌, refl}
use Rattle.std.proofs.lemmas.Bool.{false≢true, true≢false}
use Rattle.std.proofs.lemmas.List.Sums.{sum_by-cons}
use Rattle.std.specs.FinMap as fin
use Rattle.std.specs.List.{list_any}
use Rattle.sequential_object.specs.Descriptors.{is_file}
use Rattle.sequential_object.specs.Names.{links_of}
use Rattle.sequential_object.specs.Object.{State, Node, FileNode, Directory}
use Rattle.descriptor_table.proofs.MapLemmas.{paths_total}
use Rattle.descriptor_table.proofs.EntryLemmas.{standing_in}
use Rattle.descriptor_table.proofs.PathLemmas.{births_alike, entries_shown}
use Rattle.descriptor_table.specs.Shows.{Shows, birth_at, shown_node}
use Rattle.descriptor_table.specs.Table.{TableState, IsSound, is_used}

differs : Bool → Bool → Bool
differs true b = not b
differs false b = b

count_alike : {X : Type 0} (p q : X → Bool) (xs : List X) → list_any (λ x. differs (p x) (q x)) xs ≡ false
    → count_by p xs ≡ count_by q xs
unfolding differs
count_alike p q [] same = refl
count_alike p q (x ∷ xs) same = by_tests (p x) (q x) refl refl (λ later. count_alike p q xs later)
  where
    rest : (b : Bool) → differs (p x) (q x) ≡ b → (b || list_any (λ x. differs (p x) (q x)) xs) ≡ false
    rest b is = ap (λ (c : Bool). c || list_any (λ x. differs (p x) (q x)) xs) (sym is) ∙ same

    one : (a : Bool) → p x ≡ a → q x ≡ a → count_by p xs ≡ count_by q xs → count_by p (x ∷ xs) ≡ count_by q (x ∷ xs)
    one a is its more = sum_by-cons (λ y. cond (p y) 1 0) x xs ∙ ap (λ (n : ℕ). cond (p x) 1 0 + n) more
        ∙ ap (λ (c : Bool). cond c 1 0 + count_by q xs) (is ∙ sym its) ∙ sym (sum_by-cons (λ y. cond (q y) 1 0) x xs)

    by_tests : (a b : Bool) → p x ≡ a → q x ≡ b
        → (list_any (λ x. differs (p x) (q x)) xs ≡ false → count_by p xs ≡ count_by q xs)
        → count_by p (x ∷ xs) ≡ count_by q (x ∷ xs)
    by_tests true true is its later =
        one true is its (later (rest false (ap (λ (c : Bool). differs c (q x)) is ∙ ap not its)))
    by_tests false false is its later =
        one false is its (later (rest false (ap (λ (c : Bool). differs c (q x)) is ∙ its)))
    by_tests true false is its later =
        absurd (true≢false (rest true (ap (λ (c : Bool). differs c (q x)) is ∙ ap not its)))
    by_tests false true is its later = absurd (true≢false (rest true (ap (λ (c : Bool). differs c (q x)) is ∙ its)))

count_mapped : {X Y : Type 0} (f : X → Y) (p : Y → Bool) (xs : List X)
    → count_by p (map f xs) ≡ count_by (λ x. p (f x)) xs
count_mapped f p [] = refl
count_mapped f p (x ∷ xs) = sum_by-cons (λ y. cond (p y) 1 0) (f x) (map f xs)
    ∙ ap (λ (n : ℕ). cond (p (f x)) 1 0 + n) (count_mapped f p xs) ∙ sym (sum_by-cons (λ y. cond (p (f y)) 1 0) x xs)

pub links_shown : (t : TableState) (s : State) (node : ℕ) → IsSound t → Shows t s → is_used t node ≡ true
    → links_of s.paths (birth_at t node) ≡ links_of t.paths node
unfolding differs
links_shown t s node sound shows used =
    ap (count_by (λ (e : List (List ℕ) × Node). is_file e.1 (birth_at t node))) (entries_shown t s shows)
    ∙ count_mapped (λ (e : List (List ℕ) × Node). (e.0, shown_node t e.1))
    (λ (e : List (List ℕ) × Node). is_file e.1 (birth_at t node)) (fin.entries t.paths)
    ∙ count_alike (λ (e : List (List ℕ) × Node). is_file (shown_node t e.1) (birth_at t node))
    (λ (e : List (List ℕ) × Node). is_file e.1 node) (fin.entries t.paths)
    (none_differs (list_any (λ (e : List (List ℕ) × Node). differs (is_file (shown_node t e.1) (birth_at t node))
    (is_file e.1 node)) (fin.entries t.paths)) refl)
  where
    not_differs : (b : Bool) → differs b b ≡ false
    not_differs true = refl
    not_differs false = refl

    same_there : (path : List (List ℕ)) (x : Node) → fin.get t.paths path ≡ Some x
        → differs (is_file (shown_node t x) (birth_at t node)) (is_file x node) ≡ false
    same_there path Directory at = refl
    same_there path (FileNode n) at =
        ap (λ (b : Bool). differs b (n == node)) (births_alike t n node sound (sound.named_objects path n at) used)
        ∙ not_differs (n == node)

    none_differs : (b : Bool) → list_any
        (λ (e : List (List ℕ) × Node). differs (is_file (shown_node t e.1) (birth_at t node)) (is_file e.1 node))
        (fin.entries t.paths) ≡ b → list_any
        (λ (e : List (List ℕ) × Node). differs (is_file (shown_node t e.1) (birth_at t node)) (is_file e.1 node))
        (fin.entries t.paths) ≡ false
    none_differs false is = is
    none_differs true is =
        let at = standing_in paths_total
        (λ (e : List (List ℕ) × Node). differs (is_file (shown_node t e.1) (birth_at t node))
        (is_file e.1 node)) t.paths is in
        absurd (false≢true (sym (same_there at.0 at.1 at.2) ∙ at.3))
