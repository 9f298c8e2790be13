-- Lists of entries in which no key stands twice, and their maps.
use Rattle.std.proofs.Common.{◌≡◌, ℕ, zero, suc, ◌+◌, ◌<◌, List, [], ◌∷◌, ◌++◌, length, get_or, Option, Some, None}
use Rattle.std.proofs.Common.{Bool, true, false, cond, ◌||◌, count_by, remove, refl, sym, ap, ◌∙◌, subst, arith}
use Rattle.std.proofs.lemmas.Bool.{false≢true}
use Rattle.std.proofs.lemmas.List.Sums.{sum_by-cons}
use Rattle.std.proofs.lemmas.Option.{none-some}
use Rattle.std.specs.Cmp.{IsTotalOrder, eq_by_cmp_equiv}
use Rattle.std.specs.FinMap as fin
use Rattle.std.specs.FinMap.{FinMap, IsAntisymmetric, same_map, find, put, from_entries, get-from_entries, get-remove}
use Rattle.std.specs.FinMap.{get-entries, entries-insert, len-entries, entries, len-empty}
use Rattle.std.specs.FinMap.Entries.{by_order, find-append}
use Rattle.std.specs.List.{list_any}
use Rattle.std.specs.Ordering.{eq_by_cmp, is_eq}
use Rattle.directories.specs.Entries.{AreDistinct}
use Rattle.std.specs.declared.cmp.Ordering.{Ordering}
use Rattle.std.specs.declared.cmp.Ordering.TheVariants.{Less, Equal, Greater}

cond_none : {X : Type 0} (b : Bool) (x : X) (o : Option X) → cond b (Some x) o ≡ None → (b ≡ false) × (o ≡ None)
cond_none true x o e = absurd (none-some _ (sym e))
cond_none false x o e = (refl, e)

is_tie : (r : Ordering) → is_eq r ≡ true → r ≡ Equal
is_tie Less e = cc
is_tie Equal e = refl
is_tie Greater e = cc

no_length : {A : Type 0} (xs : List A) → length xs ≡ 0 → xs ≡ []
no_length [] e = refl
no_length (x ∷ xs) e = absurd (omega arith)

or_swapped : (a b c : Bool) → (a || (b || c)) ≡ (b || (a || c))
or_swapped true true c = refl
or_swapped true false c = refl
or_swapped false true c = refl
or_swapped false false c = refl

swapped : {X : Type 0} (a b : Bool) (x y z : X) → (a ≡ true → b ≡ true → ⊥)
    → cond a x (cond b y z) ≡ cond b y (cond a x z)
swapped true true x y z apart = absurd (apart refl refl)
swapped true false x y z apart = refl
swapped false b x y z apart = refl

module _ {K : Type 0} {R : K → K → Ordering} (o : IsTotalOrder R) (anti : IsAntisymmetric R) where
  pub tied : (q k : K) → eq_by_cmp R q k ≡ true → q ≡ k
  tied q k h = anti q k (is_tie (R q k) h)

  itself : (k : K) → eq_by_cmp R k k ≡ true
  itself k = (eq_by_cmp_equiv o).refl k

module _ {K X : Type 0} {R : K → K → Ordering} (o : IsTotalOrder R) (anti : IsAntisymmetric R) where
  pub AreDistinct-push : (es : List (K × X)) (k : K) (v : X) → AreDistinct R es → find R k es ≡ None
      → AreDistinct R (es ++ (k, v) ∷ [])
  AreDistinct-push [] k v d none = (refl, tt)
  AreDistinct-push (e ∷ es) k v d none =
      let parts = cond_none (eq_by_cmp R k e.0) e.1 (find R k es) none in
      let apart : eq_by_cmp R e.0 k ≡ false = (eq_by_cmp_equiv o).symm e.0 k ∙ parts.0 in
      (find-append R o es k v e.0 parts.1 ∙ rw apart d.0, AreDistinct-push es k v d.1 parts.1)

  find_none-remove : (es : List (K × X)) (i : ℕ) (q : K) → find R q es ≡ None → find R q (remove es i) ≡ None
  find_none-remove [] zero q none = refl
  find_none-remove [] (suc i) q none = refl
  find_none-remove (e ∷ es) zero q none = (cond_none (eq_by_cmp R q e.0) e.1 (find R q es) none).1
  find_none-remove (e ∷ es) (suc i) q none =
      let parts = cond_none (eq_by_cmp R q e.0) e.1 (find R q es) none in
      rw parts.0 (find_none-remove es i q parts.1)

  pub AreDistinct-remove : (es : List (K × X)) (i : ℕ) → AreDistinct R es → AreDistinct R (remove es i)
  AreDistinct-remove [] zero d = tt
  AreDistinct-remove [] (suc i) d = tt
  AreDistinct-remove (e ∷ es) zero d = d.1
  AreDistinct-remove (e ∷ es) (suc i) d = (find_none-remove es i e.0 d.0, AreDistinct-remove es i d.1)

  -- a key that stands in the list is found
  found_at : (es : List (K × X)) (i : ℕ) (k : K) (z : K × X) → i < length es → (get_or es i z).0 ≡ k
      → find R k es ≡ None → ⊥
  found_at [] i k z h e none = absurd (omega arith)
  found_at (x ∷ es) zero k z h e none =
      let parts = cond_none (eq_by_cmp R k x.0) x.1 (find R k es) none in
      let own : eq_by_cmp R k x.0 ≡ true = subst (λ (q : K). eq_by_cmp R q x.0 ≡ true) e (itself o anti x.0) in
      absurd (false≢true (sym parts.0 ∙ own))
  found_at (x ∷ es) (suc i) k z h e none =
      found_at es i k z (omega arith) e (cond_none (eq_by_cmp R k x.0) x.1 (find R k es) none).1

  find-remove : (es : List (K × X)) (i : ℕ) (k q : K) (z : K × X) → AreDistinct R es → i < length es
      → (get_or es i z).0 ≡ k → find R q (remove es i) ≡ cond (eq_by_cmp R q k) None (find R q es)
  find-remove [] i k q z d h e = absurd (omega arith)
  find-remove (x ∷ es) zero k q z d h e =
      subst (λ (y : K). find R q es ≡ cond (eq_by_cmp R q y) None (cond (eq_by_cmp R q x.0) (Some x.1) (find R q es))) e
      (by_tie (eq_by_cmp R q x.0) refl)
    where
      by_tie : (b : Bool) → eq_by_cmp R q x.0 ≡ b → find R q es ≡ cond b None (cond b (Some x.1) (find R q es))
      by_tie true t = subst (λ (y : K). find R y es ≡ None) (sym (tied o anti q x.0 t)) d.0
      by_tie false t = refl
  find-remove (x ∷ es) (suc i) k q z d h e =
      ap (cond (eq_by_cmp R q x.0) (Some x.1)) (find-remove es i k q z d.1 (omega arith) e)
      ∙ swapped (eq_by_cmp R q x.0) (eq_by_cmp R q k) (Some x.1) None (find R q es)
      (λ a b. found_at es i x.0 z (omega arith) (e ∙ sym (tied o anti q k b) ∙ tied o anti q x.0 a) d.0)

  -- without the entry at a place the map is without its key
  pub from_entries-remove : (es : List (K × X)) (i : ℕ) (k : K) (z : K × X) → AreDistinct R es → i < length es
      → (get_or es i z).0 ≡ k → from_entries {R = R} (remove es i) ≡ fin.remove (from_entries es) k
  from_entries-remove es i k z d h e =
      same_map o anti _ _ (λ q. get-from_entries o (remove es i) q ∙ find-remove es i k q z d h e
      ∙ sym (get-remove o (from_entries es) k q ∙ ap (cond (eq_by_cmp R q k) None) (get-from_entries o es q)))

  -- to remove a key that is not there changes nothing
  pub remove_none : (m : FinMap R X) (k : K) → fin.get m k ≡ None → fin.remove m k ≡ m
  remove_none m k none = same_map o anti _ _ (λ q. get-remove o m k q ∙ by_tie q (eq_by_cmp R q k) refl)
    where
      by_tie : (q : K) (b : Bool) → eq_by_cmp R q k ≡ b → cond b None (fin.get m q) ≡ fin.get m q
      by_tie q true t = sym (subst (λ (y : K). fin.get m y ≡ None) (sym (tied o anti q k t)) none)
      by_tie q false t = refl

  -- ## What counts the entries of the map counts those of the list

  -- the entries of the map with one more
  entries-cons : (e : K × X) (es : List (K × X))
      → entries (from_entries {R = R} (e ∷ es)) ≡ put R e.0 e.1 (entries (from_entries {R = R} es))
  entries-cons e es = entries-insert o (from_entries es) e.0 e.1

  -- nothing stands in the empty map
  entries-none : entries (fin.empty {X = X} {R = R}) ≡ []
  entries-none = no_length (entries (fin.empty {X = X} {R = R})) (sym (len-entries (fin.empty {X = X} {R = R}))
      ∙ len-empty R X)

  none_there : (e : K × X) (es : List (K × X)) → find R e.0 es ≡ None
      → find R e.0 (entries (from_entries {R = R} es)) ≡ None
  none_there e es none = sym (get-entries (from_entries es) e.0) ∙ get-from_entries o es e.0 ∙ none

  not_tied : (k : K) (v : X) (e : K × X) (es : List (K × X)) → find R k (e ∷ es) ≡ None → R k e.0 ≡ Equal → ⊥
  not_tied k v e es none t = false≢true (sym (cond_none (eq_by_cmp R k e.0) e.1 (find R k es) none).0 ∙ ap is_eq t)

  later : (k : K) (e : K × X) (es : List (K × X)) → find R k (e ∷ es) ≡ None → find R k es ≡ None
  later k e es none = (cond_none (eq_by_cmp R k e.0) e.1 (find R k es) none).1

  count_by-put : (p : K × X → Bool) (k : K) (v : X) (es : List (K × X)) → find R k es ≡ None
      → count_by p (put R k v es) ≡ cond (p (k, v)) 1 0 + count_by p es
  count_by-put p k v [] none = sum_by-cons (λ y. cond (p y) 1 0) (k, v) []
  count_by-put p k v (e ∷ es) none = by_order_of (R k e.0) refl (count_by-put p k v es (later k e es none))
    where
      by_order_of : (r : Ordering) → R k e.0 ≡ r → count_by p (put R k v es) ≡ cond (p (k, v)) 1 0 + count_by p es
          → count_by p (by_order r ((k, v) ∷ e ∷ es) ((e.0, v) ∷ es) (e ∷ put R k v es))
          ≡ cond (p (k, v)) 1 0 + count_by p (e ∷ es)
      by_order_of Less t rest = sum_by-cons (λ y. cond (p y) 1 0) (k, v) (e ∷ es)
      by_order_of Equal t rest = absurd (not_tied k v e es none t)
      by_order_of Greater t rest = omega
          (arith, rest, sum_by-cons (λ y. cond (p y) 1 0) e (put R k v es), sum_by-cons (λ y. cond (p y) 1 0) e es)

  list_any-put : (p : K × X → Bool) (k : K) (v : X) (es : List (K × X)) → find R k es ≡ None
      → list_any p (put R k v es) ≡ (p (k, v) || list_any p es)
  list_any-put p k v [] none = refl
  list_any-put p k v (e ∷ es) none = by_order_of (R k e.0) refl (list_any-put p k v es (later k e es none))
    where
      by_order_of : (r : Ordering) → R k e.0 ≡ r → list_any p (put R k v es) ≡ (p (k, v) || list_any p es)
          → list_any p (by_order r ((k, v) ∷ e ∷ es) ((e.0, v) ∷ es) (e ∷ put R k v es))
          ≡ (p (k, v) || list_any p (e ∷ es))
      by_order_of Less t rest = refl
      by_order_of Equal t rest = absurd (not_tied k v e es none t)
      by_order_of Greater t rest = ap (λ b. p e || b) rest ∙ or_swapped (p e) (p (k, v)) (list_any p es)

  length-put : (k : K) (v : X) (es : List (K × X)) → find R k es ≡ None → length (put R k v es) ≡ suc (length es)
  length-put k v [] none = refl
  length-put k v (e ∷ es) none = by_order_of (R k e.0) refl (length-put k v es (later k e es none))
    where
      by_order_of : (r : Ordering) → R k e.0 ≡ r → length (put R k v es) ≡ suc (length es)
          → length (by_order r ((k, v) ∷ e ∷ es) ((e.0, v) ∷ es) (e ∷ put R k v es)) ≡ suc (suc (length es))
      by_order_of Less t rest = refl
      by_order_of Equal t rest = absurd (not_tied k v e es none t)
      by_order_of Greater t rest = ap suc rest

  pub count_by-entries : (p : K × X → Bool) (es : List (K × X)) → AreDistinct R es
      → count_by p (entries (from_entries {R = R} es)) ≡ count_by p es
  count_by-entries p [] d = ap (count_by p) entries-none
  count_by-entries p (e ∷ es) d =
      ap (count_by p) (entries-cons e es)
      ∙ count_by-put p e.0 e.1 (entries (from_entries {R = R} es)) (none_there e es d.0)
      ∙ ap (λ n. cond (p e) 1 0 + n) (count_by-entries p es d.1) ∙ sym (sum_by-cons (λ y. cond (p y) 1 0) e es)

  pub list_any-entries : (p : K × X → Bool) (es : List (K × X)) → AreDistinct R es
      → list_any p (entries (from_entries {R = R} es)) ≡ list_any p es
  list_any-entries p [] d = ap (list_any p) entries-none
  list_any-entries p (e ∷ es) d = ap (list_any p) (entries-cons e es)
      ∙ list_any-put p e.0 e.1 (entries (from_entries {R = R} es)) (none_there e es d.0)
      ∙ ap (λ b. p e || b) (list_any-entries p es d.1)

  pub len-from_entries : (es : List (K × X)) → AreDistinct R es → fin.len (from_entries {R = R} es) ≡ length es
  len-from_entries [] d = len-empty R X
  len-from_entries (e ∷ es) d = len-entries (from_entries (e ∷ es)) ∙ ap length (entries-cons e es)
      ∙ length-put e.0 e.1 (entries (from_entries {R = R} es)) (none_there e es d.0)
      ∙ ap suc (sym (len-entries (from_entries es)) ∙ len-from_entries es d.1)
