-- What a map has after a change, and a test of its entries.
use Rattle.std.proofs.Common.{◌≡◌, ◌⊎◌, ℕ, ◌==◌, ◌&&◌, ◌||◌, List, [], ◌∷◌, Option, Some, None, is_some, Bool, true}
use Rattle.std.proofs.Common.{false, cond, T, inl, inr, refl, sym, ap, ◌∙◌, arith}
use Rattle.std.proofs.lemmas.Bool.{false≢true}
use Rattle.std.proofs.lemmas.Bool.Decides.{nat_tests}
use Rattle.std.proofs.lemmas.Cmp.{lists_total}
use Rattle.std.proofs.lemmas.Option.{none-some, same_Some}
use Rattle.std.specs.Cmp.{IsTotalOrder, eq_by_cmp_equiv, nat_cmp_total, unsigned_tied}
use Rattle.std.specs.FinMap as fin
use Rattle.std.specs.FinMap.{FinMap, entries, entries_sorted, get-entries, get-insert, get-remove, get_tied}
use Rattle.std.specs.FinMap.Entries.{below_all, find_tied, is_sorted}
use Rattle.std.specs.List.{list_any}
use Rattle.std.specs.Ordering.{eq_by_cmp, is_eq, is_lt, nat_cmp}
use Rattle.std.specs.declared.cmp.Ordering.{Ordering}
use Rattle.std.specs.declared.cmp.Ordering.TheVariants.{Less, Equal, Greater}
use Rattle.sequential_object.specs.Object.{path_cmp}

pub paths_total : IsTotalOrder path_cmp
paths_total = lists_total (lists_total nat_cmp_total)

pub same_number : (n m : ℕ) → (n == m) ≡ true → n ≡ m
same_number n m h = grind (arith, nat_tests)

pub number_same : (n m : ℕ) → n ≡ m → (n == m) ≡ true
number_same n m h = grind (arith, nat_tests)

is_tie : (r : Ordering) → is_eq r ≡ true → r ≡ Equal
is_tie Less e = cc
is_tie Equal e = refl
is_tie Greater e = cc

-- ## What is there after a change

module _ {K X : Type 0} {R : K → K → Ordering} (o : IsTotalOrder R) where
  -- an insertion keeps what was not at its key
  pub insert_keeps : (m : FinMap R X) (k : K) (v : X) (q : K) (x : X) → (fin.get m k ≡ Some x → ⊥)
      → fin.get m q ≡ Some x → fin.get (fin.insert m k v) q ≡ Some x
  insert_keeps m k v q x apart there = by_tie (eq_by_cmp R q k) refl
    where
      by_tie : (b : Bool) → eq_by_cmp R q k ≡ b → fin.get (fin.insert m k v) q ≡ Some x
      by_tie true t = absurd (apart (get_tied o m q k (is_tie (R q k) t) ∙ there))
      by_tie false t = get-insert o m k v q ∙ ap (λ (b : Bool). cond b (Some v) (fin.get m q)) t ∙ there

  -- what was inserted is there
  pub insert_has : (m : FinMap R X) (k : K) (v : X) → fin.get (fin.insert m k v) k ≡ Some v
  insert_has m k v = get-insert o m k v k
      ∙ ap (λ (b : Bool). cond b (Some v) (fin.get m k)) ((eq_by_cmp_equiv o).refl k)

  -- a removal keeps what was not at its key
  pub remove_keeps : (m : FinMap R X) (k q : K) (x : X) → (fin.get m k ≡ Some x → ⊥) → fin.get m q ≡ Some x
      → fin.get (fin.remove m k) q ≡ Some x
  remove_keeps m k q x apart there = by_tie (eq_by_cmp R q k) refl
    where
      by_tie : (b : Bool) → eq_by_cmp R q k ≡ b → fin.get (fin.remove m k) q ≡ Some x
      by_tie true t = absurd (apart (get_tied o m q k (is_tie (R q k) t) ∙ there))
      by_tie false t = get-remove o m k q ∙ ap (λ (b : Bool). cond b None (fin.get m q)) t ∙ there

  -- what is there after an insertion was inserted, or was there
  pub inserted_is : (m : FinMap R X) (k : K) (v : X) (q : K) (x : X) → fin.get (fin.insert m k v) q ≡ Some x → (v ≡ x)
      ⊎ (fin.get m q ≡ Some x)
  inserted_is m k v q x is = by_tie (eq_by_cmp R q k) (sym (get-insert o m k v q) ∙ is)
    where
      by_tie : (b : Bool) → cond b (Some v) (fin.get m q) ≡ Some x → (v ≡ x) ⊎ (fin.get m q ≡ Some x)
      by_tie true at = inl (same_Some v x at)
      by_tie false at = inr at

  -- what is there after a removal was there
  pub left_is : (m : FinMap R X) (k q : K) (x : X) → fin.get (fin.remove m k) q ≡ Some x → fin.get m q ≡ Some x
  left_is m k q x is = by_tie (eq_by_cmp R q k) (sym (get-remove o m k q) ∙ is)
    where
      by_tie : (b : Bool) → cond b None (fin.get m q) ≡ Some x → fin.get m q ≡ Some x
      by_tie true at = absurd (none-some x at)
      by_tie false at = at

tied_not : (x y : ℕ) → (x ≡ y → ⊥) → eq_by_cmp nat_cmp x y ≡ false
tied_not x y apart = unsigned_tied x y ∙ grind (arith, nat_tests)

tied_same : (x : ℕ) → eq_by_cmp nat_cmp x x ≡ true
tied_same x = unsigned_tied x x ∙ number_same x x refl

module _ {X : Type 0} where
  pub insert_same : (m : FinMap nat_cmp X) (k : ℕ) (x : X) → fin.get (fin.insert m k x) k ≡ Some x
  insert_same m k x = get-insert nat_cmp_total m k x k ∙ ap (λ (b : Bool). cond b (Some x) (fin.get m k)) (tied_same k)

  pub insert_other : (m : FinMap nat_cmp X) (k : ℕ) (x : X) (q : ℕ) → (q ≡ k → ⊥)
      → fin.get (fin.insert m k x) q ≡ fin.get m q
  insert_other m k x q apart = get-insert nat_cmp_total m k x q
      ∙ ap (λ (b : Bool). cond b (Some x) (fin.get m q)) (tied_not q k apart)

  -- what is there stays there
  pub insert_there : (m : FinMap nat_cmp X) (k : ℕ) (x : X) (q : ℕ) → is_some (fin.get m q) ≡ true
      → is_some (fin.get (fin.insert m k x) q) ≡ true
  insert_there m k x q there = by_tie (eq_by_cmp nat_cmp q k) (get-insert nat_cmp_total m k x q)
    where
      by_tie : (b : Bool) → fin.get (fin.insert m k x) q ≡ cond b (Some x) (fin.get m q)
          → is_some (fin.get (fin.insert m k x) q) ≡ true
      by_tie true is = ap (λ (o : Option X). is_some o) is
      by_tie false is = ap (λ (o : Option X). is_some o) is ∙ there

  pub remove_same : (m : FinMap nat_cmp X) (k : ℕ) → fin.get (fin.remove m k) k ≡ None
  remove_same m k = get-remove nat_cmp_total m k k ∙ ap (λ (b : Bool). cond b None (fin.get m k)) (tied_same k)

  pub remove_other : (m : FinMap nat_cmp X) (k q : ℕ) → (q ≡ k → ⊥) → fin.get (fin.remove m k) q ≡ fin.get m q
  remove_other m k q apart = get-remove nat_cmp_total m k q
      ∙ ap (λ (b : Bool). cond b None (fin.get m q)) (tied_not q k apart)

  -- what is left was there, and not at the key
  pub left_there : (m : FinMap nat_cmp X) (k q : ℕ) (x : X) → fin.get (fin.remove m k) q ≡ Some x → (q ≡ k → ⊥)
      × (fin.get m q ≡ Some x)
  left_there m k q x is =
      let apart : q ≡ k → ⊥ = λ (own : q ≡ k). none-some x (sym (ap (fin.get (fin.remove m k)) own ∙ remove_same m k)
      ∙ is) in
      (apart, sym (remove_other m k q apart) ∙ is)

-- ## A test of the entries

both_true : (a b : Bool) → T (a && b) → T a × T b
both_true true true h = (tt, tt)
both_true true false h = absurd h
both_true false b h = absurd h

not_tied : (r : Ordering) → T (is_lt r) → is_eq r ≡ false
not_tied Less h = refl
not_tied Equal h = absurd h
not_tied Greater h = absurd h

-- a test of the entries that holds of one, with its key
record Standing {K X : Type 0} (R : K → K → Ordering) (p : K × X → Bool) (es : List (K × X)) : Type 0 where
  key : K
  value : X
  found : fin.find R key es ≡ Some value
  holds : p (key, value) ≡ true

module _ {K X : Type 0} {R : K → K → Ordering} (o : IsTotalOrder R) where
  below_none : (k : K) (es : List (K × X)) → T (below_all R k es) → fin.find R k es ≡ None
  below_none k [] h = refl
  below_none k (e ∷ es) h =
      let parts = both_true (is_lt (R k e.0)) (below_all R k es) h in
      ap (λ (b : Bool). cond b (Some e.1) (fin.find R k es)) (not_tied (R k e.0) parts.0) ∙ below_none k es parts.1

  standing : (p : K × X → Bool) (es : List (K × X)) → T (is_sorted R es) → list_any p es ≡ true → Standing R p es
  standing p [] sorted any = absurd (false≢true any)
  standing p (e ∷ es) sorted any =
      by_test (p e) refl (λ later. standing p es (both_true (below_all R e.0 es) (is_sorted R es) sorted).1 later)
    where
      further : Standing R p es → Standing R p (e ∷ es)
      further at = by_tie (eq_by_cmp R at.key e.0) refl
        where
          by_tie : (b : Bool) → eq_by_cmp R at.key e.0 ≡ b → Standing R p (e ∷ es)
          by_tie true t =
              let none : fin.find R at.key es ≡ None = sym (find_tied R o at.key e.0 (is_tie (R at.key e.0) t) es)
              ∙ below_none e.0 es (both_true (below_all R e.0 es) (is_sorted R es) sorted).0 in
              absurd (none-some _ (sym none ∙ at.found))
          by_tie false t = record {
            key = at.key;
            value = at.value;
            found = ap (λ (b : Bool). cond b (Some e.1) (fin.find R at.key es)) t ∙ at.found;
            holds = at.holds;
          }

      by_test : (b : Bool) → p e ≡ b → (list_any p es ≡ true → Standing R p es) → Standing R p (e ∷ es)
      by_test true h later = record {
        key = e.0;
        value = e.1;
        found = ap (λ (b : Bool). cond b (Some e.1) (fin.find R e.0 es)) ((eq_by_cmp_equiv o).refl e.0);
        holds = h;
      }
      by_test false h later = further (later (sym (ap (λ (b : Bool). b || list_any p es) h) ∙ any))

  pub standing_in : (p : K × X → Bool) (m : FinMap R X) → list_any p (entries m) ≡ true → (k : K) × (x : X)
      × (fin.get m k ≡ Some x) × (p (k, x) ≡ true)
  standing_in p m any = let at = standing p (entries m) (entries_sorted m) any in
      (at.key, at.value, get-entries m at.key ∙ at.found, at.holds)

module _ {K X : Type 0} (R : K → K → Ordering) (q : X → Bool) where
  any_found : (es : List (K × X)) (k : K) (x : X) → fin.find R k es ≡ Some x → q x ≡ true
      → list_any (λ (e : K × X). q e.1) es ≡ true
  any_found [] k x is holds = absurd (none-some _ is)
  any_found (e ∷ es) k x is holds = by_tie (eq_by_cmp R k e.0) refl (λ later. any_found es k x later holds)
    where
      or_true : (a b : Bool) → b ≡ true → (a || b) ≡ true
      or_true true b h = refl
      or_true false b h = h

      by_tie : (b : Bool) → eq_by_cmp R k e.0 ≡ b
          → (fin.find R k es ≡ Some x → list_any (λ (e : K × X). q e.1) es ≡ true)
          → (q e.1 || list_any (λ (e : K × X). q e.1) es) ≡ true
      by_tie true t later =
          let same : e.1 ≡ x = same_Some _ _ (sym (ap (λ (b : Bool). cond b (Some e.1) (fin.find R k es)) t) ∙ is) in
          ap (λ (y : X). q y || list_any (λ (e : K × X). q e.1) es) same
          ∙ ap (λ (b : Bool). b || list_any (λ (e : K × X). q e.1) es) holds
      by_tie false t later = or_true (q e.1) _
          (later (sym (ap (λ (b : Bool). cond b (Some e.1) (fin.find R k es)) t) ∙ is))

  pub any_of : (m : FinMap R X) (k : K) (x : X) → fin.get m k ≡ Some x → q x ≡ true
      → list_any (λ (e : K × X). q e.1) (entries m) ≡ true
  any_of m k x is holds = any_found (entries m) k x (sym (get-entries m k) ∙ is) holds
