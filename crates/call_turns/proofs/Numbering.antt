-- The lowest number that is free, and the number that an object has.
use Rattle.std.proofs.Common.{◌≡◌, ℕ, zero, suc, ◌+◌, ◌<◌, List, [], ◌∷◌, Option, Some, None, true, false, get_or}
use Rattle.std.proofs.Common.{length, refl, sym, ap, ◌∙◌, arith, ⊎_elim}
use Rattle.std.proofs.lemmas.Bool.{cases_Bool, cond-true, cond-false, false≢true, ne_eqb, eq-eqb}
use Rattle.std.proofs.lemmas.Option.{none-some, same_Some}
use Rattle.std.specs.FinMap as fin
use Rattle.std.specs.Prelude.{is_some, slice_index_or}
use Rattle.posix_terms.specs.declared.limits.TheConstants.Limits as limit
use Rattle.descriptor_table.specs.Table.{TableState, free_object, lowest_from}
use Rattle.sequential_object.specs.Numbers.{first_free, number_in}
use Rattle.sequential_object.specs.Worlds.{World}
use Rattle.call_turns.specs.Store.{Stands, Stored}

lowest_first : (slots : List (Option ℕ)) (left from object : ℕ) (rest : List (Option ℕ))
    → ((k : ℕ) → slice_index_or slots (from + k) None ≡ get_or rest k None) → length rest ≡ left
    → lowest_from slots left from ≡ Some object → from + first_free rest ≡ object
unfolding lowest_from
lowest_first slots zero from object rest at count is = absurd (none-some object is)
lowest_first slots (suc left) from object [] at count is = absurd (omega (arith, count))
lowest_first slots (suc left) from object (None ∷ rest) at count is =
    let here : slice_index_or slots from None ≡ None = ap (λ k. slice_index_or slots k None) (still from) ∙ at 0 in
    sym (still from) ∙ same_Some from object (sym (cond-false _ _ _ (ap is_some here)) ∙ is)
  where
    still : (k : ℕ) → k ≡ k + 0
    still k = omega arith
lowest_first slots (suc left) from object (Some b ∷ rest) at count is =
    let here : slice_index_or slots from None ≡ Some b = ap (λ k. slice_index_or slots k None) (still from) ∙ at 0 in
    along from (first_free rest)
    ∙ lowest_first slots left (from + 1) object rest (λ k. ap (λ n. slice_index_or slots n None) (later from k)
    ∙ at (suc k)) (less (length rest) left count) (sym (cond-true _ _ _ (ap is_some here)) ∙ is)
  where
    still : (k : ℕ) → k ≡ k + 0
    still k = omega arith

    later : (a b : ℕ) → (a + 1) + b ≡ a + suc b
    later a b = omega arith

    along : (a b : ℕ) → a + suc b ≡ (a + 1) + b
    along a b = omega arith

    less : (a b : ℕ) → suc a ≡ suc b → a ≡ b
    less a b e = omega arith

pub lowest_is_free : (slots : List (Option ℕ)) (left from object : ℕ) → lowest_from slots left from ≡ Some object
    → slice_index_or slots object None ≡ None
unfolding lowest_from
lowest_is_free slots zero from object is = absurd (none-some object is)
lowest_is_free slots (suc left) from object is =
    ⊎_elim
    (λ (taken : is_some (slice_index_or slots from None) ≡ true). lowest_is_free slots left (from + 1) object
    (sym (cond-true _ _ _ taken) ∙ is))
    (λ (free : is_some (slice_index_or slots from None) ≡ false).
    ap (λ k. slice_index_or slots k None) (sym (same_Some from object (sym (cond-false _ _ _ free) ∙ is)))
    ∙ is_none (slice_index_or slots from None) free)
    (cases_Bool (is_some (slice_index_or slots from None)))
  where
    is_none : (o : Option ℕ) → is_some o ≡ false → o ≡ None
    is_none None e = refl
    is_none (Some x) e = absurd (false≢true (sym e))

pub first_free_is : (t : TableState) (object : ℕ) → length t.objects ≡ limit.OBJECTS → free_object t ≡ Some object
    → first_free t.objects ≡ object
first_free_is t object count is =
    sym (from_zero (first_free t.objects))
    ∙ lowest_first t.objects limit.OBJECTS 0 object t.objects
    (λ k. ap (λ n. slice_index_or t.objects n None) (from_zero k)) count is
  where
    from_zero : (k : ℕ) → 0 + k ≡ k
    from_zero k = omega arith

-- no other slot has this object
pub number_in_is : (slots : List (Option ℕ)) (object birth : ℕ) → get_or slots object None ≡ Some birth
    → ((other : ℕ) → get_or slots other None ≡ Some birth → other ≡ object) → number_in slots birth ≡ object
number_in_is [] object birth at alone = absurd (none-some birth at)
number_in_is (Some b ∷ slots) zero birth at alone = cond-true _ _ _ (eq-eqb b birth (same_Some b birth at))
number_in_is (None ∷ slots) zero birth at alone = absurd (none-some birth at)
number_in_is (None ∷ slots) (suc object) birth at alone =
    ap suc (number_in_is slots object birth at (λ other is. less other object (alone (suc other) is)))
  where
    less : (a b : ℕ) → suc a ≡ suc b → a ≡ b
    less a b e = omega arith
number_in_is (Some b ∷ slots) (suc object) birth at alone =
    cond-false _ _ _ (ne_eqb b birth (λ e. not_first object (alone 0 (ap (λ x. Some x) e))))
    ∙ ap suc (number_in_is slots object birth at (λ other is. less other object (alone (suc other) is)))
  where
    less : (a b : ℕ) → suc a ≡ suc b → a ≡ b
    less a b e = omega arith

    not_first : (n : ℕ) → 0 ≡ suc n → ⊥
    not_first n e = omega arith

-- the next object is not there yet
pub next_is_new : (h : Stored) (w : World) → Stands h w
    → is_some (fin.get w.object.objects h.table.made_objects) ≡ false
next_is_new h w stands =
    ⊎_elim
    (λ (there : is_some (fin.get w.object.objects h.table.made_objects) ≡ true).
    let found = stands.shows.numbered h.table.made_objects there in
    absurd (not_below h.table.made_objects (stands.sound.born found.0 h.table.made_objects found.1)))
    (λ (new : is_some (fin.get w.object.objects h.table.made_objects) ≡ false). new)
    (cases_Bool (is_some (fin.get w.object.objects h.table.made_objects)))
  where
    not_below : (n : ℕ) → n < n → ⊥
    not_below n l = omega arith
