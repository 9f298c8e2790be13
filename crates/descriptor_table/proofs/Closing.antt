-- The case splits of what closes a descriptor, stated once: in the table and in the state.
use Rattle.std.proofs.Common.{◌≡◌, ◌-◌, ◌||◌, ℕ, None, true, false}
use Rattle.std.specs.FinMap as fin
use Rattle.std.specs.Prelude.{slice_set}
use Rattle.sequential_object.specs.Descriptors as posix
use Rattle.sequential_object.specs.Object as object
use Rattle.sequential_object.specs.Object.{State}
use Rattle.file_descriptions.specs.Descriptions.{DescriptionMap, description_at, is_last_held, with_description}
use Rattle.file_descriptions.specs.Descriptions.{without, without_holder}
use Rattle.std.proofs.lemmas.Bool.{cond_both}
use Rattle.descriptor_table.specs.Changes.{closed, let_go, without_gone}
use Rattle.descriptor_table.specs.Table.{TableState, is_gone}

-- ## In the table

-- what holds without a description, and with one holder less, holds with that holder gone
pub over_holder : (P : DescriptionMap → Type 0) (m : DescriptionMap) (key : ℕ) → P (without m key)
    → (is_last_held m key ≡ false
    → P (with_description m key (record (description_at m key) { holders = (description_at m key).holders - 1 })))
    → P (without_holder m key)
over_holder P m key gone fewer = cond_both (is_last_held m key) _ _ P (λ last. gone) fewer

module _ (P : TableState → Type 0) where
  -- what holds of a table, and of it without an object that is gone
  pub over_gone : (t : TableState) (node : ℕ) → P t
      → (is_gone t node ≡ true → P (record t { objects = slice_set t.objects node None }))
      → P (without_gone t node)
  over_gone t node left freed = cond_both (is_gone t node) _ _ P freed (λ stays. left)

  pub over_closed : (t : TableState) (n key : ℕ) → P (let_go t n key)
      → ((node : ℕ) → is_gone (let_go t n key) node ≡ true
      → P (record (let_go t n key) { objects = slice_set t.objects node None }))
      → P (closed t n key)
  over_closed t n key left freed =
      let node : ℕ = (description_at t.descriptions key).node in
      cond_both (is_last_held t.descriptions key) _ _ P (λ last. over_gone (let_go t n key) node left (freed node))
      (λ more. left)

-- ## In the state

module _ (P : State → Type 0) where
  -- what holds of a state, and of it without an object
  pub over_unused : (s : State) (node : ℕ) → P s → P (record s { objects = fin.remove s.objects node })
      → P (posix.without_unused s node)
  over_unused s node left less = cond_both (posix.has_description s node || posix.has_path s node) _ _ P (λ used. left)
      (λ unused. less)

  -- what holds of a state, of it without a description, and without its object then
  pub over_released : (s : State) (key : ℕ) (d : object.Description) → P s
      → P (record s { descriptions = fin.remove s.descriptions key })
      → P (record s { descriptions = fin.remove s.descriptions key; objects = fin.remove s.objects d.object })
      → P (posix.released s key d)
  over_released s key d left ended less =
      cond_both (posix.has_descriptor s key) _ _ P (λ held. left)
      (λ free. over_unused (record s { descriptions = fin.remove s.descriptions key }) d.object ended less)
