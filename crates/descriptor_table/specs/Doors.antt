-- Believed: a contract of the headline stands on it.
-- Which numbers of objects are those of doors, by the descriptions that lead outside.
use Rattle.std.specs.Prelude.{◌≡◌, ◌⊎◌, ℕ, true, Some, None}
use Rattle.std.specs.FinMap as map
use Rattle.file_descriptions.specs.Descriptions.{DescriptionMap, is_last_held}
use Rattle.file_descriptions.specs.declared.description.Description.{Description}
use Rattle.posix_terms.specs.declared.object.Door.{Door}
use Rattle.posix_terms.specs.declared.object.End.TheVariants as part
use Rattle.sequential_object.specs.Deciding.{leads_outside}
use Rattle.sequential_object.specs.declared.decision.Change.{Change}
use Rattle.sequential_object.specs.declared.decision.Change.TheVariants as change

-- a description of the object with this number leads outside, by this door
pub record LeadsTo (m : DescriptionMap) (n : ℕ) (d : Door) : Type 0 where
  pub key : ℕ
  pub description : Description
  pub there : map.get m.by_key key ≡ Some description
  pub own : description.node ≡ n
  pub which : description.«end» ≡ part.Door d

-- at most one description of an object leads outside
abbrev pub HaveOne : DescriptionMap → Type 0
HaveOne m = (q r : ℕ) (e f : Description) → map.get m.by_key q ≡ Some e
    → map.get m.by_key r ≡ Some f → e.node ≡ f.node
    → leads_outside e.«end» ≡ true → leads_outside f.«end» ≡ true → q ≡ r

-- a description was there under this key, of the same object and of the same end
pub record WasThere (m : DescriptionMap) (q : ℕ) (e : Description) : Type 0 where
  pub before : Description
  pub there : map.get m.by_key q ≡ Some before
  pub node : before.node ≡ e.node
  pub «end» : before.«end» ≡ e.«end»

-- no description that leads outside is new
abbrev pub AddsNone : DescriptionMap → DescriptionMap → Type 0
AddsNone m later = (q : ℕ) (e : Description) → map.get later.by_key q ≡ Some e
    → leads_outside e.«end» ≡ true → WasThere m q e

-- at most one is, and it is of the object with this number
pub record AddsOne (m : DescriptionMap) (node : ℕ) (later : DescriptionMap) : Type 0 where
  pub key : ℕ
  pub adds : (q : ℕ) (e : Description) → map.get later.by_key q ≡ Some e
      → leads_outside e.«end» ≡ true → WasThere m q e ⊎ ((q ≡ key) × (e.node ≡ node))

-- a description that one descriptor alone holds is gone once that is closed
abbrev pub GoneWithLast : DescriptionMap → Change → DescriptionMap → Type 0
GoneWithLast m (change.Close n key) later = is_last_held m key ≡ true
    → map.get later.by_key key ≡ None
GoneWithLast m x later = Unit {0}
