-- What the map of the descriptions in slots answers.
use Rattle.std.proofs.Common.{◌≡◌, ◌≢◌, ℕ, zero, suc, ◌+◌, ◌<◌, List, [], ◌∷◌, length, get_or, Option, Some, None}
use Rattle.std.proofs.Common.{is_some, true, false, cond, count_by, refl, sym, ap, ◌∙◌, inl, inr, arith}
use Rattle.std.proofs.lemmas.Bool.{cases_eq}
use Rattle.std.proofs.lemmas.Bool.Decides.{nat_tests}
use Rattle.std.proofs.lemmas.List.Sums.{sum_by-cons}
use Rattle.std.specs.Cmp.{nat_cmp_is, nat_cmp_total, unsigned_tied}
use Rattle.std.specs.FinMap as fin
use Rattle.std.specs.FinMap.{FinMap, same_map, nat_cmp-IsAntisymmetric, entries-from_sorted, get-insert, get-remove}
use Rattle.std.specs.FinMap.{find, is_sorted, len-entries, get-entries, get-empty}
use Rattle.std.specs.FinMap.Entries.{below_all}
use Rattle.std.specs.Ordering.{nat_cmp, eq_by_cmp}
use Rattle.std.specs.declared.cmp.Ordering.TheVariants.{Less, Equal, Greater}
use Rattle.slab.specs.Slab.{Slab, Updates, entries_from}
use Rattle.slab.specs.Slab.{get as slot_at}
use Rattle.file_descriptions.specs.Descriptions.{described}
use Rattle.file_descriptions.specs.declared.description.Description.{Description}

less : (x y : ℕ) → x < y → nat_cmp x y ≡ Less
less x y h = sym (nat_cmp_is x y Less h)

greater : (x y : ℕ) → y < x → nat_cmp x y ≡ Greater
greater x y h = sym (nat_cmp_is x y Greater h)

same : (x y : ℕ) → x ≡ y → nat_cmp x y ≡ Equal
same x y h = sym (nat_cmp_is x y Equal h)

module _ {X : Type 0} where
  -- the slots from n on have keys from n on
  below_all-entries_from : (x n : ℕ) (slots : List (Option X)) → x < n
      → below_all nat_cmp x (entries_from n slots) ≡ true
  below_all-entries_from x n [] h = refl
  below_all-entries_from x n (None ∷ slots) h = below_all-entries_from x (n + 1) slots (omega arith)
  below_all-entries_from x n (Some d ∷ slots) h = rw (less x n h) (below_all-entries_from x (n + 1) slots (omega arith))

  is_sorted-entries_from : (n : ℕ) (slots : List (Option X)) → is_sorted nat_cmp (entries_from n slots) ≡ true
  is_sorted-entries_from n [] = refl
  is_sorted-entries_from n (None ∷ slots) = is_sorted-entries_from (n + 1) slots
  is_sorted-entries_from n (Some d ∷ slots) = rw (below_all-entries_from n (n + 1) slots (omega arith))
      (is_sorted-entries_from (n + 1) slots)

  find_before : (q n : ℕ) (slots : List (Option X)) → q < n → find nat_cmp q (entries_from n slots) ≡ None
  find_before q n [] h = refl
  find_before q n (None ∷ slots) h = find_before q (n + 1) slots (omega arith)
  find_before q n (Some d ∷ slots) h = rw (less q n h) (find_before q (n + 1) slots (omega arith))

  find-entries_from : (n k q : ℕ) (slots : List (Option X)) → q ≡ n + k
      → find nat_cmp q (entries_from n slots) ≡ get_or slots k None
  find-entries_from n k q [] e = refl
  find-entries_from n zero q (None ∷ slots) e = find_before q (n + 1) slots (omega arith)
  find-entries_from n (suc k) q (None ∷ slots) e = find-entries_from (n + 1) k q slots (omega arith)
  find-entries_from n zero q (Some d ∷ slots) e = rw (same q n (omega arith)) refl
  find-entries_from n (suc k) q (Some d ∷ slots) e =
      rw (greater q n (omega arith)) (find-entries_from (n + 1) k q slots (omega arith))

  -- there is an entry for each slot in use
  length-entries_from : (n : ℕ) (slots : List (Option X)) → length (entries_from n slots) ≡ count_by is_some slots
  length-entries_from n [] = refl
  length-entries_from n (None ∷ slots) =
      omega (arith, length-entries_from (n + 1) slots, sum_by-cons (λ o. cond (is_some o) 1 0) None slots)
  length-entries_from n (Some d ∷ slots) =
      omega (arith, length-entries_from (n + 1) slots, sum_by-cons (λ o. cond (is_some o) 1 0) (Some d) slots)

tied_not : (x y : ℕ) → x ≢ y → eq_by_cmp nat_cmp x y ≡ false
tied_not x y apart = unsigned_tied x y ∙ grind (arith, nat_tests)

module _ {X : Type 0} where
  pub get-insert_same : (m : FinMap nat_cmp X) (key : ℕ) (x : X) → fin.get (fin.insert m key x) key ≡ Some x
  get-insert_same m key x = get-insert nat_cmp_total m key x key ∙ rw (same key key refl) refl

  pub get-insert_other : (m : FinMap nat_cmp X) (key : ℕ) (x : X) (q : ℕ) → q ≢ key
      → fin.get (fin.insert m key x) q ≡ fin.get m q
  get-insert_other m key x q apart = get-insert nat_cmp_total m key x q ∙ rw (tied_not q key apart) refl

  pub get-remove_same : (m : FinMap nat_cmp X) (key : ℕ) → fin.get (fin.remove m key) key ≡ None
  get-remove_same m key = get-remove nat_cmp_total m key key ∙ rw (same key key refl) refl

  pub get-remove_other : (m : FinMap nat_cmp X) (key : ℕ) (q : ℕ) → q ≢ key → fin.get (fin.remove m key) q ≡ fin.get m q
  get-remove_other m key q apart = get-remove nat_cmp_total m key q ∙ rw (tied_not q key apart) refl

pub entries-described : (slots : List (Option Description)) → fin.entries (described slots) ≡ entries_from 0 slots
unfolding described
entries-described slots = entries-from_sorted nat_cmp (entries_from 0 slots) (rw (is_sorted-entries_from 0 slots) tt)

-- at each key what its slot has
pub get-described : (slots : List (Option Description)) (key : ℕ)
    → fin.get (described slots) key ≡ get_or slots key None
get-described slots key = get-entries (described slots) key ∙ ap (find nat_cmp key) (entries-described slots)
    ∙ find-entries_from 0 key key slots (omega arith)

pub len-described : (slots : List (Option Description)) → fin.len (described slots) ≡ count_by is_some slots
len-described slots = len-entries (described slots) ∙ ap length (entries-described slots) ∙ length-entries_from 0 slots

pub described-insert : (old new : Slab Description) (key : ℕ) (d : Description) → Updates old new key (Some d)
    → described new.slots ≡ fin.insert (described old.slots) key d
described-insert old new key d updates = same_map nat_cmp_total nat_cmp-IsAntisymmetric _ _ at
  where
    at : (q : ℕ) → fin.get (described new.slots) q ≡ fin.get (fin.insert (described old.slots) key d) q
    at q = elim (cases_eq q key) [
      | inl e ↦ get-described new.slots q ∙ ap (slot_at new) e ∙ updates.changed
          ∙ sym (ap (fin.get (fin.insert (described old.slots) key d)) e ∙ get-insert_same (described old.slots) key d)
      | inr apart ↦ get-described new.slots q ∙ updates.others q apart
          ∙ sym (get-insert_other (described old.slots) key d q apart ∙ get-described old.slots q)
    ]

pub described-remove : (old new : Slab Description) (key : ℕ) → Updates old new key None
    → described new.slots ≡ fin.remove (described old.slots) key
described-remove old new key updates = same_map nat_cmp_total nat_cmp-IsAntisymmetric _ _ at
  where
    at : (q : ℕ) → fin.get (described new.slots) q ≡ fin.get (fin.remove (described old.slots) key) q
    at q = elim (cases_eq q key) [
      | inl e ↦ get-described new.slots q ∙ ap (slot_at new) e ∙ updates.changed
          ∙ sym (ap (fin.get (fin.remove (described old.slots) key)) e ∙ get-remove_same (described old.slots) key)
      | inr apart ↦ get-described new.slots q ∙ updates.others q apart
          ∙ sym (get-remove_other (described old.slots) key q apart ∙ get-described old.slots q)
    ]

pub described-none : described [] ≡ fin.empty
described-none = same_map nat_cmp_total nat_cmp-IsAntisymmetric _ _ (λ q. get-described [] q
    ∙ sym (get-empty nat_cmp q))

pub ruleset slots = (
  get-described,
  len-described,
  entries-described,
  described-insert,
  described-remove,
  described-none,
)
