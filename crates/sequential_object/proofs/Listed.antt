-- Finite maps that are given by the sorted lists of their entries: what they have, and what they are after a change.
use Rattle.std.proofs.Common.{◌≡◌, ℕ, Bool, true, false, not, cond, List, [], ◌∷◌, length, None, refl, sym, ap, ◌∙◌}
use Rattle.std.proofs.Common.{arith}
use Rattle.std.proofs.lemmas.Bool.{false≢true, true≢false}
use Rattle.std.proofs.lemmas.Cmp.{lists_total, nat_cmp_total}
use Rattle.std.specs.Cmp.{IsTotalOrder, eq_by_cmp_equiv}
use Rattle.std.specs.FinMap as map
use Rattle.std.specs.FinMap.{FinMap, IsAntisymmetric, nat_cmp-IsAntisymmetric, slice_cmp-IsAntisymmetric}
use Rattle.std.specs.FinMap.Entries.{where_key, find-where_key}
use Rattle.std.specs.Ordering.{eq_by_cmp, nat_cmp}
use Rattle.std.specs.declared.cmp.Ordering.{Ordering}
use Rattle.sequential_object.specs.Object.{path_cmp}

paths_total : IsTotalOrder path_cmp
paths_total = lists_total (lists_total nat_cmp_total)

paths_apart : IsAntisymmetric path_cmp
paths_apart = slice_cmp-IsAntisymmetric (slice_cmp-IsAntisymmetric nat_cmp-IsAntisymmetric)

no_length : {X : Type 0} (xs : List X) → length xs ≡ 0 → xs ≡ []
no_length [] e = refl
no_length (x ∷ xs) e = absurd (omega arith)

entries-empty : {K X : Type 0} (R : K → K → Ordering) → map.entries (map.empty {X = X} {R = R}) ≡ []
entries-empty {K} {X} R = no_length _ (sym (map.len-entries (map.empty {X = X} {R = R})) ∙ map.len-empty R X)

turned : {A : Type 0} (b c : Bool) (x y : A) → b ≡ c → cond b x y ≡ cond (not c) y x
turned true true x y e = refl
turned false false x y e = refl
turned true false x y e = absurd (true≢false e)
turned false true x y e = absurd (false≢true e)

-- the entries of other keys
abbrev pub others : {K X : Type 0} → (K → K → Ordering) → K → List (K × X) → List (K × X)
others R k es = where_key R (λ x. not (eq_by_cmp R k x)) es

find-others : {K X : Type 0} {R : K → K → Ordering} → IsAntisymmetric R → (es : List (K × X)) (k q : K)
    → map.find R q (others R k es) ≡ cond (not (eq_by_cmp R k q)) (map.find R q es) None
find-others {R = R} same es k q =
    find-where_key R (λ x. not (eq_by_cmp R k x)) q (λ x t. ap (λ y. not (eq_by_cmp R k y)) (sym (same q x t))) es

module _ {K X : Type 0} (R : K → K → Ordering) where
  pub get-listed : (es : List (K × X)) (q : K) → map.is_sorted R es ≡ true
      → map.get (map.from_sorted {R = R} es) q ≡ map.find R q es
  get-listed es q e = map.get-from_sorted R es q (rw e tt)

  pub entries-listed : (es : List (K × X)) → map.is_sorted R es ≡ true → map.entries (map.from_sorted {R = R} es) ≡ es
  entries-listed es e = map.entries-from_sorted R es (rw e tt)

  pub len-listed : (es : List (K × X)) → map.is_sorted R es ≡ true → map.len (map.from_sorted {R = R} es) ≡ length es
  len-listed es e = map.len-entries (map.from_sorted {R = R} es) ∙ ap length (entries-listed es e)

  listed_as : (m : FinMap R X) (es : List (K × X)) → map.is_sorted R es ≡ true → map.entries m ≡ es
      → m ≡ map.from_sorted es
  listed_as m es e same = map.same_entries_map m (map.from_sorted es) (same ∙ sym (entries-listed es e))

  pub empty-listed : map.empty {X = X} {R = R} ≡ map.from_sorted []
  empty-listed = listed_as _ [] refl (entries-empty R)

  inserted : IsTotalOrder R → (es : List (K × X)) (k : K) (x : X) → map.is_sorted R es ≡ true
      → map.is_sorted R (map.put R k x es) ≡ true
      → map.insert (map.from_sorted {R = R} es) k x ≡ map.from_sorted (map.put R k x es)
  inserted o es k x e f = listed_as _ _ f (map.entries-insert o _ k x ∙ ap (map.put R k x) (entries-listed es e))

  removed : IsTotalOrder R → IsAntisymmetric R → (es : List (K × X)) (k : K) → map.is_sorted R es ≡ true
      → map.is_sorted R (others R k es) ≡ true
      → map.remove (map.from_sorted {R = R} es) k ≡ map.from_sorted (others R k es)
  removed o same es k e f =
      let found : (q : K) → map.get (map.remove (map.from_sorted {R = R} es) k) q
      ≡ cond (not (eq_by_cmp R k q)) (map.find R q es) None =
      λ q. map.get-remove o _ k q ∙ turned (eq_by_cmp R q k) (eq_by_cmp R k q) _ _ ((eq_by_cmp_equiv o).symm q k)
      ∙ ap (λ x. cond (not (eq_by_cmp R k q)) x None) (get-listed es q e) in
      map.same_map o same _ _ (λ q. found q ∙ sym (get-listed (others R k es) q f ∙ find-others same es k q))

pub insert-number : {X : Type 0} (es : List (ℕ × X)) (n : ℕ) (x : X) → map.is_sorted nat_cmp es ≡ true
    → map.is_sorted nat_cmp (map.put nat_cmp n x es) ≡ true
    → map.insert (map.from_sorted {R = nat_cmp} es) n x ≡ map.from_sorted (map.put nat_cmp n x es)
insert-number = inserted nat_cmp nat_cmp_total

pub insert-path : {X : Type 0} (es : List (List (List ℕ) × X)) (path : List (List ℕ)) (x : X)
    → map.is_sorted path_cmp es ≡ true → map.is_sorted path_cmp (map.put path_cmp path x es) ≡ true
    → map.insert (map.from_sorted {R = path_cmp} es) path x ≡ map.from_sorted (map.put path_cmp path x es)
insert-path = inserted path_cmp paths_total

pub remove-number : {X : Type 0} (es : List (ℕ × X)) (n : ℕ) → map.is_sorted nat_cmp es ≡ true
    → map.is_sorted nat_cmp (others nat_cmp n es) ≡ true
    → map.remove (map.from_sorted {R = nat_cmp} es) n ≡ map.from_sorted (others nat_cmp n es)
remove-number = removed nat_cmp nat_cmp_total nat_cmp-IsAntisymmetric

pub remove-path : {X : Type 0} (es : List (List (List ℕ) × X)) (path : List (List ℕ)) → map.is_sorted path_cmp es ≡ true
    → map.is_sorted path_cmp (others path_cmp path es) ≡ true
    → map.remove (map.from_sorted {R = path_cmp} es) path ≡ map.from_sorted (others path_cmp path es)
remove-path = removed path_cmp paths_total paths_apart

pub ruleset listed = (
  get-listed,
  entries-listed,
  len-listed,
  empty-listed,
  insert-number,
  insert-path,
  remove-number,
  remove-path,
)
