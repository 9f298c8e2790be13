-- Internal: no contract of the headline or of a command stands on it.
-- The maps hold nothing unused, and what is referred to is there.
use Rattle.std.specs.Prelude.{◌≡◌, ◌↔◌, ℕ, ◌<◌, List, Bool, true, false, ◌||◌, ◌&&◌, Option, Some}
use Rattle.std.specs.Prelude.{is_some}
use Rattle.std.specs.FinMap as map
use Rattle.sequential_object.specs.Descriptors.{has_descriptor, has_description, has_end, has_path}
use Rattle.sequential_object.specs.Descriptors.{is_of_end}
use Rattle.sequential_object.specs.Object.{State, Description, Content, File, FileNode, empty_state}
use Rattle.sequential_object.specs.Step.{Carried, step}
use Rattle.posix_terms.specs.Calls.{Call}
use Rattle.posix_terms.specs.declared.limits.TheConstants.Limits as limit
use Rattle.posix_terms.specs.declared.object.End.{End}
use Rattle.posix_terms.specs.declared.outcome.Outcome.{Outcome}
use Rattle.posix_terms.specs.declared.transcript.Settings.{Settings}

-- whether there is a file
abbrev pub is_a_file : Option Content → Bool
is_a_file (Some (File bytes)) = true
is_a_file other = false

-- a state in which nothing is unused, and what is referred to is there
pub record HoldsNothingUnused (s : State) : Type 0 where
  -- a descriptor refers to each description
  pub described : (key : ℕ) (d : Description) → map.get s.descriptions key ≡ Some d
      → has_descriptor s key ≡ true
  -- a description refers to each object; of a file it may be a path
  pub used : (object : ℕ) (c : Content) → map.get s.objects object ≡ Some c
      → (has_description s object || (is_a_file (Some c) && has_path s object)) ≡ true
  -- what is referred to is there: the description of a descriptor, the object of a description, the
  -- file of a path
  pub opens : (n key : ℕ) → map.get s.descriptors n ≡ Some key
      → is_some (map.get s.descriptions key) ≡ true
  pub refers : (key : ℕ) (d : Description) → map.get s.descriptions key ≡ Some d
      → is_some (map.get s.objects d.object) ≡ true
  pub names : (path : List (List ℕ)) (object : ℕ) → map.get s.paths path ≡ Some (FileNode object)
      → is_a_file (map.get s.objects object) ≡ true
  -- descriptors are below their limit, so that `has_descriptor` looks at each
  pub within : (n key : ℕ) → map.get s.descriptors n ≡ Some key → n < limit.DESCRIPTORS
  -- keys in use are below the next one, so that this is new, and `has_description` looks at each
  pub numbered : (key : ℕ) (d : Description) → map.get s.descriptions key ≡ Some d
      → key < s.next_description
  pub made : (object : ℕ) (c : Content) → map.get s.objects object ≡ Some c → object < s.next_object

-- it is so of the state in which nothing is open
abbrev pub StartsTidy : Type 0
StartsTidy = HoldsNothingUnused empty_state

-- and each turn of each call keeps it so, whatever its outcome is
abbrev pub StepsKeepTidy : Type 0
StepsKeepTidy =
    (settings : Settings) (s : State) (c : Call) (outcome : Option Outcome) (carried : Carried)
    → HoldsNothingUnused s
    → HoldsNothingUnused (step settings s c outcome carried).after

-- a description is of this end of the object
pub record IsOpenAt (s : State) (object : ℕ) (which : End) : Type 0 where
  pub key : ℕ
  pub description : Description
  pub there : map.get s.descriptions key ≡ Some description
  pub its : is_of_end (Some description) object which ≡ true

-- so an object has an end exactly when some description is of it
abbrev pub EndsAreOpen : Type 0
EndsAreOpen = (s : State) (object : ℕ) (which : End) → HoldsNothingUnused s
    → (has_end s object which ≡ true) ↔ IsOpenAt s object which
