-- Internal: no contract of the headline or of a command stands on it.
-- What holds of every table.
use Rattle.std.specs.Prelude.{◌≡◌, ◌⊎◌, ◌<◌, ℕ, true, Some, is_some, IfOk}
use Rattle.std.specs.FinMap as map
use Rattle.sequential_object.specs.Descriptors as posix
use Rattle.sequential_object.specs.Object.{State, Content, content_of, empty_state, with_content}
use Rattle.posix_terms.specs.Calls.{Call}
use Rattle.posix_terms.specs.declared.carried.Moved.{Moved}
use Rattle.posix_terms.specs.declared.limits.TheConstants.Limits as limit
use Rattle.posix_terms.specs.declared.object.Door.{Door}
use Rattle.posix_terms.specs.declared.object.End.{End}
use Rattle.posix_terms.specs.declared.object.End.TheVariants as part
use Rattle.file_descriptions.specs.Descriptions.{AreSound, ContainsKey, with_offset}
use Rattle.sequential_object.specs.Meant.{moved_to, seen}
use Rattle.sequential_object.specs.Renaming.{Alike}
use Rattle.sequential_object.specs.Decided.{decided}
use Rattle.sequential_object.specs.So.{CanAct, CanDo, IsFree, IsNamed, IsSeen, IsSo}
use Rattle.sequential_object.specs.declared.decision.Act.{Act}
use Rattle.sequential_object.specs.declared.decision.Deed.{Deed}
use Rattle.sequential_object.specs.declared.decision.Seen.{Seen}
use Rattle.descriptor_table.specs.Agreement.{DecidesAsStep}
use Rattle.descriptor_table.specs.Applied.{AreNumbers}
use Rattle.descriptor_table.specs.Changes.{IsFreeNumber, IsNextObject}
use Rattle.descriptor_table.specs.Shows.{Shows, birth_at, birth_of, is_of, same_door}
use Rattle.descriptor_table.specs.Table.{IsSound, TableState, empty_table, free_object, is_open}
use Rattle.descriptor_table.specs.Table.{is_used}
use Rattle.descriptor_table.specs.View.{names_of, view}

-- the table with another offset of one description
abbrev pub with_offset_at : TableState → ℕ → ℕ → TableState
with_offset_at t key offset =
    record t { descriptions = with_offset t.descriptions key offset }

-- a content that has the ends of another
abbrev pub HasEndsOf : Content → Content → Type 0
HasEndsOf content other = (which : End) → is_of which other ≡ true → is_of which content ≡ true

-- what was seen by a descriptor is there: the description, under its birth, and its object, which
-- has the end that it is of
pub record IsThere (t : TableState) (at : Seen) : Type 0 where
  pub key : ContainsKey t.descriptions at.key
  pub used : is_used t at.object ≡ true
  pub birth : birth_of t at.key ≡ at.birth
  pub ends : (s : State) → Shows t s → is_of at.«end» (content_of s (birth_at t at.object)) ≡ true

-- what is decided of a call was looked up, and is what the sequential object decides
pub record Follows (t : TableState) (c : Call) (moved : Moved) : Type 0 where
  pub so : IfOk (decided (view t) c moved) (IsSo (view t) c)
  pub step : DecidesAsStep t c moved (decided (view t) c moved)

-- a table with another offset of one description is sound, and shows the state with that offset
pub record OffsetMoves (t : TableState) (key offset : ℕ) : Type 0 where
  pub sound : IsSound (with_offset_at t key offset)
  pub described : AreSound (with_offset_at t key offset).descriptions
  pub shows : (s : State) → Shows t s
      → Shows (with_offset_at t key offset)
      (moved_to s (Some offset) (Some (birth_of t key)) (map.get s.descriptions (birth_of t key)))

-- an object that is there, or the one that is made next; so it has one of the numbers of objects
abbrev pub IsKnownNumber : TableState → ℕ → Type 0
IsKnownNumber t object =
    (object < limit.OBJECTS) × ((is_used t object ≡ true) ⊎ (free_object t ≡ Some object))

-- all that holds of tables and of the states that they show: they decide alike, what a decision
-- needs is there, and a new offset or content is shown too
pub record TableFollows : Type 0 where
  -- the first table is sound, and shows the first state
  pub first : IsSound empty_table × Shows empty_table empty_state
  pub calls : (t : TableState) (c : Call) (moved : Moved) → IsSound t → AreSound t.descriptions
      → Follows t c moved
  -- a table and a state that it shows look alike but for the names
  pub alike : (t : TableState) (s : State) → IsSound t → AreSound t.descriptions → Shows t s
      → Alike (names_of t) (view t) (seen s)
  pub seen : (t : TableState) (at : Seen) → IsSound t → IsSeen (view t) at → IsThere t at
  -- what a path names is there, and is a file
  pub named : (t : TableState) (object : ℕ) → IsSound t → IsNamed (view t) object
      → (is_used t object ≡ true)
      × ((s : State) → Shows t s → is_of part.Only (content_of s (birth_at t object)) ≡ true)
  -- the next object has a number that is free, and so has a descriptor that is to be opened
  pub next : (t : TableState) (object : ℕ) → free_object t ≡ Some object → IsNextObject t object
  pub free : (t : TableState) (n : ℕ) → IsFree (view t) n → IsFreeNumber t n
  -- an act opens numbers of descriptors, and the object that is locked is there or is the next
  pub numbers : (t : TableState) (c : Call) (object : ℕ) (a : Act) → CanAct (view t) c object a
      → AreNumbers a
  pub known : (t : TableState) (c : Call) (object : ℕ) (d : Deed) → IsSound t
      → CanDo (view t) c object d → IsKnownNumber t object
  -- an end that an object has is open in the table exactly when it is in the state
  pub ends : (t : TableState) (s : State) (object : ℕ) (which : End) → IsSound t
      → AreSound t.descriptions
      → Shows t s → is_used t object ≡ true → is_of which (content_of s (birth_at t object)) ≡ true
      → posix.has_end s (birth_at t object) which ≡ is_open t object which
  pub offsets : (t : TableState) (key offset : ℕ) → IsSound t → AreSound t.descriptions
      → ContainsKey t.descriptions key → OffsetMoves t key offset
  -- what an object holds does not matter, as long as it has the same ends
  pub contents : (t : TableState) (s : State) (birth : ℕ) (content : Content) → Shows t s
      → is_some (map.get s.objects birth) ≡ true → HasEndsOf content (content_of s birth)
      → Shows t (with_content s birth content)
  -- two doors of one kind, or listeners of one port, are the same
  pub doors : (one other : Door) → same_door one other ≡ true → other ≡ one
