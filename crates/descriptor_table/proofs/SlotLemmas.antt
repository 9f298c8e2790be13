-- The least place where there is nothing.
use Rattle.std.proofs.Common.{◌≡◌, ℕ, suc, ◌+◌, ◌-◌, ◌<◌, ◌≤◌, List, length, Option, Some, None, is_some, true, false}
use Rattle.std.proofs.Common.{refl, ap, ◌∙◌, arith}
use Rattle.std.specs.Prelude.{slice_index_or}
use Rattle.descriptor_table.specs.Table.{lowest_from}

more : (i n : ℕ) → i < n → n - i ≡ suc (n - (i + 1))
more i n h = omega arith

module _ {X : Type 0} where
  stops : (slots : List (Option X)) (k i : ℕ) → is_some (slice_index_or slots i None) ≡ false
      → lowest_from slots (suc k) i ≡ Some i
  unfolding lowest_from
  stops slots k i free = rw free refl

  goes_on : (slots : List (Option X)) (k i : ℕ) → is_some (slice_index_or slots i None) ≡ true
      → lowest_from slots (suc k) i ≡ lowest_from slots k (i + 1)
  unfolding lowest_from
  goes_on slots k i taken = rw taken refl

  at_none : (slots : List (Option X)) (i : ℕ) → lowest_from slots 0 i ≡ None
  unfolding lowest_from
  at_none slots i = refl

  pub lowest_here : (slots : List (Option X)) (i : ℕ) → i < length slots → is_some (slice_index_or slots i None) ≡ false
      → lowest_from slots (length slots - i) i ≡ Some i
  lowest_here slots i h free = ap (λ left. lowest_from slots left i) (more i (length slots) h)
      ∙ stops slots (length slots - (i + 1)) i free

  pub lowest_later : (slots : List (Option X)) (i : ℕ) → i < length slots → is_some (slice_index_or slots i None) ≡ true
      → lowest_from slots (length slots - i) i ≡ lowest_from slots (length slots - (i + 1)) (i + 1)
  lowest_later slots i h taken = ap (λ left. lowest_from slots left i) (more i (length slots) h)
      ∙ goes_on slots (length slots - (i + 1)) i taken

  pub lowest_past : (slots : List (Option X)) (i : ℕ) → length slots ≤ i → lowest_from slots (length slots - i) i ≡ None
  lowest_past slots i h =
      let none : length slots - i ≡ 0 = omega arith in
      ap (λ left. lowest_from slots left i) none ∙ at_none slots i

pub ruleset lowest = (lowest_here, lowest_later, lowest_past)
