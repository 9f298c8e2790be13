-- Changes that keep a map of descriptions sound.
use Rattle.std.proofs.Common.{◌≡◌, ℕ, ◌+◌, ◌<◌, ◌≤◌, Option, None, Some, is_some, IsTrue, length, Bool, true, false}
use Rattle.std.proofs.Common.{cond, ◌-◌, refl, sym, ap, ◌∙◌, subst, inl, inr, arith}
use Rattle.std.proofs.lemmas.Bool.{cases_eq, false≢true}
use Rattle.std.proofs.lemmas.List.{length-map}
use Rattle.std.proofs.lemmas.Option.{same_Some, none-some}
use Rattle.std.specs.Cmp.{nat_cmp_total}
use Rattle.std.specs.FinMap as fin
use Rattle.std.specs.FinMap.{len-insert, len-remove, len-empty, get-empty, len-entries}
use Rattle.std.specs.Ordering.{nat_cmp}
use Rattle.file_descriptions.specs.Descriptions.{DescriptionMap, AreSound, ContainsKey, description_at, no_descriptions}
use Rattle.file_descriptions.specs.Descriptions.{with_description, with_new, without}
use Rattle.file_descriptions.specs.declared.description.Description.{Description}
use Rattle.file_descriptions.proofs.SlotLemmas.{get-insert_same, get-insert_other, get-remove_same, get-remove_other}

pub AreSound-none : AreSound no_descriptions
AreSound-none =
    record {
      few = rw (len-empty nat_cmp Description) (omega arith);
      held = λ key d is. absurd (none-some _ (sym (get-empty nat_cmp key) ∙ is));
      born = λ key d is. absurd (none-some _ (sym (get-empty nat_cmp key) ∙ is));
      distinct = λ key other d e is its same. absurd (none-some _ (sym (get-empty nat_cmp key) ∙ is));
    }

-- what stands at a key after an insertion: the new description, or what stood there
data Found (m : DescriptionMap) (key : ℕ) (new : Description) (q : ℕ) (d : Description) : Type 0 where
  IsNew : (here : q ≡ key) → (is : d ≡ new) → Found m key new q d
  IsOld : (apart : q ≡ key → ⊥) → (was : fin.get m.by_key q ≡ Some d) → Found m key new q d

found : (m : DescriptionMap) (key : ℕ) (new : Description) (q : ℕ) (d : Description)
    → fin.get (fin.insert m.by_key key new) q ≡ Some d → Found m key new q d
found m key new q d is =
    elim (cases_eq q key) [
      | inl e ↦ IsNew e (same_Some _ _ (sym is ∙ ap (fin.get (fin.insert m.by_key key new)) e
          ∙ get-insert_same m.by_key key new))
      | inr apart ↦ IsOld apart (sym (get-insert_other m.by_key key new q apart) ∙ is)
    ]

-- what holds of the new description at its key and of the old ones elsewhere holds after an insertion
each_inserted : (P : ℕ → Description → Type 0) (m : DescriptionMap) (key : ℕ) (new : Description) → P key new
    → ((q : ℕ) (d : Description) → fin.get m.by_key q ≡ Some d → P q d) → (q : ℕ) (d : Description)
    → fin.get (fin.insert m.by_key key new) q ≡ Some d → P q d
each_inserted P m key new here others q d is = by_found (found m key new q d is)
  where
    by_found : Found m key new q d → P q d
    by_found (IsNew at same) = subst (λ (k : ℕ). P k d) (sym at) (subst (P key) (sym same) here)
    by_found (IsOld apart was) = others q d was

pub AreSound-new : (m : DescriptionMap) (key : ℕ) (d : Description) → AreSound m → fin.get m.by_key key ≡ None
    → fin.len m.by_key < 32 → d.holders ≡ 1 → d.birth ≡ m.made → AreSound (with_new m key d)
AreSound-new m key d sound free room one birth =
    record {
      few = rw (len-insert nat_cmp_total m.by_key key d, free) (omega arith);
      held = each_inserted (λ q e. 1 ≤ e.holders) m key d (omega arith) sound.held;
      born = each_inserted (λ q e. e.birth < m.made + 1) m key d (omega arith)
          (λ q e is. let h : e.birth < m.made = sound.born q e is in omega arith);
      distinct = λ q r e f is its. each_inserted (λ q e. e.birth ≡ f.birth → q ≡ r) m key d
          (each_inserted (λ r f. d.birth ≡ f.birth → key ≡ r) m key d (λ same. refl)
          (λ r f its same. let h : f.birth < m.made = sound.born r f its in absurd (omega arith)) r f its)
          (λ q e was. each_inserted (λ r f. e.birth ≡ f.birth → q ≡ r) m key d
          (λ same. let h : e.birth < m.made = sound.born q e was in absurd (omega arith))
          (λ r f its same. sound.distinct q r e f was its same) r f its)
          q e is;
    }

-- a new value at a key that keeps the birth
pub AreSound-changed : (m : DescriptionMap) (key : ℕ) (old d : Description) → AreSound m
    → fin.get m.by_key key ≡ Some old → 1 ≤ d.holders → d.birth ≡ old.birth → AreSound (with_description m key d)
AreSound-changed m key old d sound was held birth =
    let h : old.birth < m.made = sound.born key old was in
    let few : fin.len m.by_key ≤ 32 = sound.few in
    record {
      few = rw (len-insert nat_cmp_total m.by_key key d, was) few;
      held = each_inserted (λ q e. 1 ≤ e.holders) m key d held sound.held;
      born = each_inserted (λ q e. e.birth < m.made) m key d (omega arith) sound.born;
      distinct = λ q r e f is its. each_inserted (λ q e. e.birth ≡ f.birth → q ≡ r) m key d
          (each_inserted (λ r f. d.birth ≡ f.birth → key ≡ r) m key d (λ same. refl)
          (λ r f its same. sound.distinct key r old f was its (sym birth ∙ same)) r f its)
          (λ q e there. each_inserted (λ r f. e.birth ≡ f.birth → q ≡ r) m key d
          (λ same. sound.distinct q key e old there was (same ∙ birth))
          (λ r f its same. sound.distinct q r e f there its same) r f its)
          q e is;
    }

kept : (m : DescriptionMap) (key q : ℕ) (d : Description) → fin.get (fin.remove m.by_key key) q ≡ Some d
    → fin.get m.by_key q ≡ Some d
kept m key q d is =
    elim (cases_eq q key) [
      | inl e ↦ absurd (none-some _ (sym (ap (fin.get (fin.remove m.by_key key)) e ∙ get-remove_same m.by_key key)
          ∙ is))
      | inr apart ↦ sym (get-remove_other m.by_key key q apart) ∙ is
    ]

fewer : (b : Bool) (n : ℕ) → n ≤ 32 → cond b (n - 1) n ≤ 32
fewer true n h = omega arith
fewer false n h = h

pub AreSound-removed : (m : DescriptionMap) (key : ℕ) → AreSound m → AreSound (without m key)
AreSound-removed m key sound =
    record {
      few = rw (len-remove nat_cmp_total m.by_key key)
          (fewer (fin.contains_key m.by_key key) (fin.len m.by_key) sound.few);
      held = λ q d is. sound.held q d (kept m key q d is);
      born = λ q d is. sound.born q d (kept m key q d is);
      distinct = λ q r d e is its. sound.distinct q r d e (kept m key q d is) (kept m key r e its);
    }

pub ruleset sound = (AreSound-none, AreSound-new, AreSound-changed, AreSound-removed)

none_not : (o : Option Description) → o ≡ None → IsTrue (is_some o) → ⊥
none_not None is there = absurd (false≢true there)
none_not (Some d) is there = none-some _ (sym is)

-- what stands under a key that is there
pub known_at : (m : DescriptionMap) (key : ℕ) → ContainsKey m key → fin.get m.by_key key ≡ Some (description_at m key)
known_at m key there = by_found (fin.get m.by_key key) refl
  where
    by_found : (o : Option Description) → fin.get m.by_key key ≡ o → fin.get m.by_key key ≡ Some (description_at m key)
    by_found None is = absurd (none_not (fin.get m.by_key key) is there)
    by_found (Some d) is = rw is refl

pub few_values : (m : DescriptionMap) → AreSound m → length (fin.values m.by_key) ≤ 32
few_values m sound = let few : fin.len m.by_key ≤ 32 = sound.few in
    omega (arith, length-map (fin.entries m.by_key) (λ e. e.1), len-entries m.by_key)
