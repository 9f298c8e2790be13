-- Whether there is a number for a new object, and which it is, in the table and in the state.
use Rattle.std.proofs.Common.{◌≡◌, ℕ, zero, suc, ◌+◌, ◌<◌, ◌≤◌, List, [], ◌∷◌, length, Option, Some, None, is_some}
use Rattle.std.proofs.Common.{unwrap_or, Bool, true, false, cond, not, if◌then◌else◌, inl, inr, refl, sym, ap, ◌∙◌}
use Rattle.std.proofs.Common.{arith}
use Rattle.std.proofs.lemmas.Bool.{cases_eq}
use Rattle.std.proofs.lemmas.Bool.Decides.{nat_tests}
use Rattle.std.proofs.lemmas.List.Sums.{sum_by-cons}
use Rattle.std.proofs.lemmas.Option.{none-some}
use Rattle.std.specs.FinMap as fin
use Rattle.std.specs.Prelude.{nat_le, slice_index_or}
use Rattle.sequential_object.specs.Object.{State}
use Rattle.file_descriptions.specs.Descriptions.{AreSound}
use Rattle.descriptor_table.proofs.FreeLemmas.{lowest_below, lowest_none}
use Rattle.descriptor_table.proofs.PathLemmas.{holds_of, objects_counted, taken}
use Rattle.descriptor_table.proofs.SoundLemmas.{not_all_open}
use Rattle.descriptor_table.specs.Shows.{Shows, birth_at}
use Rattle.descriptor_table.specs.Table.{TableState, IsSound, free_object, lowest_from}

-- ## The lowest number

none_lowest : (slots : List (Option ℕ)) (left from : ℕ) → lowest_from slots left from ≡ None → (i : ℕ) → from ≤ i
    → i < from + left
    → is_some (slice_index_or slots i None) ≡ true
unfolding lowest_from
none_lowest slots zero from is i above inside = absurd (omega arith)
none_lowest slots (suc left) from is i above inside =
    by_test (is_some (slice_index_or slots from None)) refl (λ later. none_lowest slots left (from + 1) later)
  where
    by_test : (b : Bool) → is_some (slice_index_or slots from None) ≡ b
        → (lowest_from slots left (from + 1) ≡ None → (i : ℕ) → from + 1 ≤ i → i < from + 1 + left
        → is_some (slice_index_or slots i None) ≡ true) → is_some (slice_index_or slots i None) ≡ true
    by_test false free later =
        absurd (none-some _ (sym is ∙ ap (λ (b : Bool). if b then lowest_from slots left (from + 1) else Some from)
        free))
    by_test true taken later =
        elim (cases_eq i from) [
          | inl e ↦ ap (λ (k : ℕ). is_some (slice_index_or slots k None)) e ∙ taken
          | inr apart ↦ (
              later (sym (ap (λ (b : Bool). if b then lowest_from slots left (from + 1) else Some from) taken) ∙ is) i
              (omega arith)
              (omega arith))
        ]

all_taken : (slots : List (Option ℕ)) → ((i : ℕ) → i < length slots → is_some (slice_index_or slots i None) ≡ true)
    → taken slots ≡ length slots
all_taken [] each = refl
all_taken (o ∷ os) each =
    let rest = all_taken os (λ i inside. each (suc i) (omega arith)) in
    let one : ◌≡◌ {A = ℕ} (cond (is_some o) 1 0) 1 = ap (λ (b : Bool). cond b 1 0) (each 0 (omega arith)) in
    omega (arith, rest, one, sum_by-cons (λ (x : Option ℕ). cond (is_some x) 1 0) o os)

module _ (t : TableState) (s : State) (sound : IsSound t) (all : AreSound t.descriptions) (shows : Shows t s) where
  -- there is a number for a new object exactly when there are not as many as there may be
  pub full_shown : nat_le 48 (fin.len s.objects) ≡ not (is_some (free_object t))
  full_shown = ap (nat_le 48) (objects_counted t.objects s.objects (holds_of t s sound shows))
      ∙ by_free (free_object t) refl
    where
      long : length t.objects ≡ 48
      long = sound.object_numbers

      at_most : (n : ℕ) → n ≡ 48 → nat_le 48 n ≡ true
      at_most n e = grind (arith, nat_tests)

      below : (n : ℕ) → n < 48 → nat_le 48 n ≡ false
      below n e = grind (arith, nat_tests)

      by_free : (o : Option ℕ) → free_object t ≡ o → nat_le 48 (taken t.objects) ≡ not (is_some o)
      by_free None is =
          at_most (taken t.objects)
          (all_taken t.objects (λ i inside. none_lowest t.objects 48 0 is i (omega arith) (omega (arith, long))) ∙ long)
      by_free (Some n) is =
          let inside : n < 0 + 48 = lowest_below t.objects 48 0 n is in
          let fewer : taken t.objects < length t.objects = not_all_open t.objects n (omega (arith, long))
          (lowest_none t.objects 48 0 n is) in
          below (taken t.objects) (omega (arith, long))

  -- the next number of an object is that of the one to come
  pub born_next : (node : ℕ) → free_object t ≡ Some node → birth_at t node ≡ s.next_object
  born_next node is = ap (λ (o : Option ℕ). unwrap_or o t.made_objects) (lowest_none t.objects 48 0 node is)
      ∙ sym shows.next_object
