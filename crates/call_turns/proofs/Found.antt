-- What stands in a list or a map at a place where something does.
use Rattle.std.proofs.Common.{◌≡◌, ◌≢◌, ◌⊎◌, inl, inr, ap, Bool, cond, ℕ, zero, suc, ◌<◌, List, [], ◌∷◌, length, Option}
use Rattle.std.proofs.Common.{Some, None, is_some, unwrap_or, true, false, refl, sym, ◌∙◌, arith}
use Rattle.std.proofs.lemmas.Bool.{cases_eq, false≢true}
use Rattle.std.proofs.lemmas.Bool.Decides.{nat_tests}
use Rattle.std.proofs.lemmas.Option.{none-some, same_Some}
use Rattle.std.specs.Cmp.{nat_cmp_is, nat_cmp_total, unsigned_tied}
use Rattle.std.specs.FinMap as fin
use Rattle.std.specs.FinMap.{FinMap, get-insert, get-remove}
use Rattle.std.specs.Ordering.{eq_by_cmp, nat_cmp}
use Rattle.std.specs.Prelude.{slice_index_or}
use Rattle.std.specs.declared.cmp.Ordering.TheVariants.{Equal}
use Rattle.file_descriptions.specs.Descriptions.{ContainsKey, DescriptionMap, description_at, no_description}
use Rattle.descriptor_table.specs.Shows.{birth_at}
use Rattle.descriptor_table.specs.Table.{TableState, is_used}

some_is : {A : Type 0} (o : Option A) (d : A) → is_some o ≡ true → o ≡ Some (unwrap_or o d)
some_is None d there = absurd (false≢true there)
some_is (Some x) d there = refl

-- an object that is there, and a description
pub birth_is : (t : TableState) (object : ℕ) → is_used t object ≡ true
    → slice_index_or t.objects object None ≡ Some (birth_at t object)
birth_is t object used = some_is (slice_index_or t.objects object None) t.made_objects used

pub known_at : (m : DescriptionMap) (key : ℕ) → ContainsKey m key → fin.get m.by_key key ≡ Some (description_at m key)
known_at m key there = some_is (fin.get m.by_key key) no_description there

pub place_within : (slots : List (Option ℕ)) (n x : ℕ) → slice_index_or slots n None ≡ Some x → n < length slots
place_within [] n x is = absurd (none-some x is)
place_within (o ∷ slots) zero x is = omega arith
place_within (o ∷ slots) (suc n) x is = let h : n < length slots = place_within slots n x is in omega arith

-- ## After an insertion

tied_not : (x y : ℕ) → x ≢ y → eq_by_cmp nat_cmp x y ≡ false
tied_not x y apart = unsigned_tied x y ∙ grind (arith, nat_tests)

tied_same : (x : ℕ) → nat_cmp x x ≡ Equal
tied_same x = sym (nat_cmp_is x x Equal refl)

module _ {X : Type 0} where
  pub get-insert_same : (m : FinMap nat_cmp X) (key : ℕ) (x : X) → fin.get (fin.insert m key x) key ≡ Some x
  get-insert_same m key x = get-insert nat_cmp_total m key x key ∙ rw (tied_same key) refl

  pub get-insert_other : (m : FinMap nat_cmp X) (key : ℕ) (x : X) (q : ℕ) → q ≢ key
      → fin.get (fin.insert m key x) q ≡ fin.get m q
  get-insert_other m key x q apart = get-insert nat_cmp_total m key x q ∙ rw (tied_not q key apart) refl

  pub put_at : (m : FinMap nat_cmp X) (key : ℕ) (x : X) (q : ℕ) (y : X) → fin.get (fin.insert m key x) q ≡ Some y
      → ((q ≡ key) × (x ≡ y)) ⊎ ((q ≢ key) × (fin.get m q ≡ Some y))
  put_at m key x q y is =
      elim (cases_eq q key) [
        | inl at ↦ inl (at, same_Some _ _ (sym (ap (fin.get (fin.insert m key x)) at ∙ get-insert_same m key x) ∙ is))
        | inr apart ↦ inr (apart, sym (get-insert_other m key x q apart) ∙ is)
      ]

  -- what is left was there
  pub got_less : (m : FinMap nat_cmp X) (key q : ℕ) (y : X) → fin.get (fin.remove m key) q ≡ Some y
      → fin.get m q ≡ Some y
  got_less m key q y is = by_tie (eq_by_cmp nat_cmp q key) refl
    where
      by_tie : (b : Bool) → eq_by_cmp nat_cmp q key ≡ b → fin.get m q ≡ Some y
      by_tie true tied = absurd (none-some _
          (sym (get-remove nat_cmp_total m key q ∙ ap (λ (b : Bool). cond b None (fin.get m q)) tied) ∙ is))
      by_tie false tied = sym (get-remove nat_cmp_total m key q ∙ ap (λ (b : Bool). cond b None (fin.get m q)) tied)
          ∙ is

  -- a value in the place of another one
  pub still_some : (m : FinMap nat_cmp X) (key : ℕ) (x : X) (q : ℕ) → is_some (fin.get m key) ≡ true
      → is_some (fin.get (fin.insert m key x) q) ≡ is_some (fin.get m q)
  still_some m key x q there =
      elim (cases_eq q key) [
        | inl at ↦ (
            ap (λ (o : Option X). is_some o) (ap (fin.get (fin.insert m key x)) at ∙ get-insert_same m key x)
            ∙ sym (ap (λ (k : ℕ). is_some (fin.get m k)) at ∙ there))
        | inr apart ↦ ap (λ (o : Option X). is_some o) (get-insert_other m key x q apart)
      ]
