-- Believed: a contract of the headline stands on it.
-- The sequential object: one table of descriptors, as one thread after another uses it.
-- POSIX.1-2017, Base Definitions, 3.258 (open file description): a descriptor refers to an open
-- file description, and this to an object.
use Rattle.std.specs.Prelude.{ℕ, ◌+◌, zero, suc, List, [], Bool, true, false, ◌||◌, unwrap_or}
use Rattle.std.specs.Ordering.{nat_cmp}
use Rattle.std.specs.declared.cmp.Ordering.{Ordering}
use Rattle.std.specs.Cmp.Lexicographic.{slice_cmp}
use Rattle.std.specs.FinMap as map
use Rattle.std.specs.FinMap.{FinMap}
use Rattle.sequential_object.specs.Streams.{PairState}
use Rattle.posix_terms.specs.declared.call.Access.{Access}
use Rattle.posix_terms.specs.declared.object.Door.{Door}
use Rattle.posix_terms.specs.declared.object.End.{End}

-- an open file description: what it refers to and which end of that, how it may be used, its offset
-- and its flags
pub record Description : Type 0 where
  pub object : ℕ
  pub «end» : End
  pub access : Access
  pub offset : ℕ
  pub append : Bool
  pub nonblock : Bool

-- what an object holds
pub data Content : Type 0 where
  File : (bytes : List ℕ) → Content
  Pipe : (bytes : List ℕ) → Content
  Pair : (sockets : PairState) → Content
  -- what leads outside, of which no bytes are here
  DoorTo : (door : Door) → Content

-- what a path names
pub data Node : Type 0 where
  FileNode : (object : ℕ) → Node
  Directory : Node

-- the order of paths, by their components
abbrev pub path_cmp : List (List ℕ) → List (List ℕ) → Ordering
path_cmp = slice_cmp (slice_cmp nat_cmp)

-- Descriptions and objects have keys that are never used again: `next_description` and
-- `next_object` are the next ones. A path is the list of its components. The root, the path with
-- none, is always a directory and stands in no map
pub record State : Type 0 where
  pub descriptors : FinMap nat_cmp ℕ
  pub descriptions : FinMap nat_cmp Description
  pub objects : FinMap nat_cmp Content
  pub paths : FinMap path_cmp Node
  pub next_description : ℕ
  pub next_object : ℕ

-- no descriptor is open, and there is only the root
abbrev pub empty_state : State
empty_state =
    record {
      descriptors = map.empty;
      descriptions = map.empty;
      objects = map.empty;
      paths = map.empty;
      next_description = 0;
      next_object = 0;
    }

-- what an object holds; the object of a description is in the map
abbrev pub content_of : State → ℕ → Content
content_of s object = unwrap_or (map.get s.objects object) (File [])

-- whether an object is a door
abbrev pub is_door : Content → Bool
is_door (DoorTo door) = true
is_door c = false

-- a new content for an object
abbrev pub with_content : State → ℕ → Content → State
with_content s object content = record s { objects = map.insert s.objects object content }

-- whether a test holds of a number below n
abbrev pub any_below : ℕ → (ℕ → Bool) → Bool
any_below zero test = false
any_below (suc n) test = any_below n test || test n

-- a new object that no path names
abbrev pub with_object : State → Content → State
with_object s content = record s {
  objects = map.insert s.objects s.next_object content;
  next_object = s.next_object + 1;
}
