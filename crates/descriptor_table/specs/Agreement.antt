-- Believed: a contract of the headline stands on it.
-- That what the table decides of a call is what the sequential object decides, and what a change
-- keeps of the numbers of objects.
use Rattle.std.specs.Prelude.{◌≡◌, ◌⊎◌, ◌≤◌, ◌+◌, slice_index_or, ℕ, Option, Some, None, Result}
use Rattle.sequential_object.specs.Object.{State}
use Rattle.sequential_object.specs.Decided.{decided}
use Rattle.posix_terms.specs.Calls.{Call}
use Rattle.posix_terms.specs.declared.carried.Moved.{Moved}
use Rattle.posix_terms.specs.declared.errno.Errno.{Errno}
use Rattle.posix_terms.specs.Queries.{Query}
use Rattle.sequential_object.specs.Meant.{seen}
use Rattle.sequential_object.specs.Renaming.{decision_by, ok_by}
use Rattle.sequential_object.specs.declared.decision.Decision.{Decision}
use Rattle.descriptor_table.specs.Shows.{Shows}
use Rattle.descriptor_table.specs.Table.{TableState, free_object}
use Rattle.descriptor_table.specs.View.{names_of}
use Rattle.descriptor_table.specs.declared.plan.Errand.{Errand}

-- in whatever state the table shows, this is decided of a call that moved so much before, under the
-- names of that state
abbrev pub DecidesAsStep : TableState → Call → Moved → Result Decision Errno → Type 0
DecidesAsStep t c moved d =
    (s : State) → Shows t s → decided (seen s) c moved ≡ ok_by (decision_by (names_of t)) d

-- what a call asks of the outside with this errand
abbrev pub query_of : Call → Errand → Option Query
query_of c errand = Some (record { kind = errand.kind; asked = errand.asked; call = c })

-- ## Numbers and births

-- a new object is there, under the next number that was free, and each other one as before
pub record IsBorn (t after : TableState) : Type 0 where
  pub node : ℕ
  pub free : free_object t ≡ Some node
  pub here : slice_index_or after.objects node None ≡ Some t.made_objects
  pub others : (other birth : ℕ) → slice_index_or t.objects other None ≡ Some birth
      → slice_index_or after.objects other None ≡ Some birth
  pub made : after.made_objects ≡ t.made_objects + 1

-- a number that an object has was its own before, or was the next free one and the object is new;
-- and a call makes one object and two descriptions at most
pub record NumbersStay (t after : TableState) : Type 0 where
  pub numbers : (object birth : ℕ) → slice_index_or after.objects object None ≡ Some birth
      → (slice_index_or t.objects object None ≡ Some birth)
      ⊎ ((free_object t ≡ Some object) × (birth ≡ t.made_objects))
  pub objects : after.made_objects ≤ t.made_objects + 1
  pub born : (after.made_objects ≡ t.made_objects) ⊎ IsBorn t after
  pub descriptions : after.descriptions.made ≤ t.descriptions.made + 2
