-- Believed: a contract of the headline stands on it.
-- What a table shows of the sequential object: all but what the objects hold. The keys of the
-- sequential object are the births of descriptions and of objects.
use Rattle.std.specs.Prelude.{◌≡◌, ℕ, ◌==◌, ℤ, List, Bool, true, false, Some, None, Ok, Err}
use Rattle.std.specs.Prelude.{is_some, unwrap_or, slice_index_or}
use Rattle.std.specs.Option.{option_map}
use Rattle.std.specs.FinMap as map
use Rattle.sequential_object.specs.Object as posix
use Rattle.sequential_object.specs.Object.{State, Content, File, Pipe, Pair, DoorTo, Node, FileNode}
use Rattle.sequential_object.specs.Object.{Directory, content_of}
use Rattle.posix_terms.specs.declared.object.Door.{Door}
use Rattle.posix_terms.specs.declared.object.Door.TheVariants as door
use Rattle.posix_terms.specs.declared.object.End.{End}
use Rattle.posix_terms.specs.declared.object.End.TheVariants as part
use Rattle.file_descriptions.specs.Descriptions.{description_at}
use Rattle.file_descriptions.specs.declared.description.Description.{Description}
use Rattle.posix_terms.specs.declared.errno.Errno.TheVariants.{EBADF}
use Rattle.sequential_object.specs.Descriptors as descriptors
use Rattle.descriptor_table.specs.Table.{TableState, described, key_at}

-- the birth of the object with this number; a number that is free is for the object to come
abbrev pub birth_at : TableState → ℕ → ℕ
birth_at t object = unwrap_or (slice_index_or t.objects object None) t.made_objects

-- the birth of the description under this key
abbrev pub birth_of : TableState → ℕ → ℕ
birth_of t key = let d : Description = description_at t.descriptions key in d.birth

-- a description as the sequential object has it
abbrev pub shown : TableState → Description → posix.Description
shown t d = record {
  object = birth_at t d.node;
  «end» = d.«end»;
  access = d.access;
  offset = d.offset;
  append = d.flags.append;
  nonblock = d.flags.nonblock;
}

-- what a path names, as the sequential object has it
abbrev pub shown_node : TableState → Node → Node
shown_node t (FileNode object) = FileNode (birth_at t object)
shown_node t Directory = Directory

-- whether two doors are of one kind, and two listeners of one port
abbrev pub same_door : Door → Door → Bool
same_door door.HostFile door.HostFile = true
same_door (door.Listener port) (door.Listener other) = port == other
same_door door.Stream door.Stream = true
same_door one other = false

-- whether an object with this content has this end
abbrev pub is_of : End → Content → Bool
is_of part.Only (File bytes) = true
is_of part.Read (Pipe bytes) = true
is_of part.Write (Pipe bytes) = true
is_of (part.Socket side) (Pair sockets) = true
is_of (part.Door one) (DoorTo other) = same_door one other
is_of which content = false

-- a table shows this state of the sequential object, but for what the objects hold
pub record Shows (t : TableState) (s : State) : Type 0 where
  pub descriptors : (n : ℕ)
      → map.get s.descriptors n ≡ option_map (birth_of t) (slice_index_or t.descriptors n None)
  -- each description is there under its birth, and no other one
  pub descriptions : (key : ℕ) (d : Description) → map.get t.descriptions.by_key key ≡ Some d
      → map.get s.descriptions d.birth ≡ Some (shown t d)
  pub described : (birth : ℕ) → is_some (map.get s.descriptions birth) ≡ true
      → (key : ℕ) × (d : Description) × (map.get t.descriptions.by_key key ≡ Some d)
      × (d.birth ≡ birth)
  pub paths : (path : List (List ℕ))
      → map.get s.paths path ≡ option_map (shown_node t) (map.get t.paths path)
  -- each object is there under its birth, and no other one
  pub objects : (object birth : ℕ) → slice_index_or t.objects object None ≡ Some birth
      → is_some (map.get s.objects birth) ≡ true
  pub numbered : (birth : ℕ) → is_some (map.get s.objects birth) ≡ true
      → (object : ℕ) × (slice_index_or t.objects object None ≡ Some birth)
  -- each has the ends that its descriptions are of, and what a path names is a file
  pub ends : (key : ℕ) (d : Description) → map.get t.descriptions.by_key key ≡ Some d
      → is_of d.«end» (content_of s (birth_at t d.node)) ≡ true
  pub files : (path : List (List ℕ)) (object : ℕ) → map.get t.paths path ≡ Some (FileNode object)
      → is_of part.Only (content_of s (birth_at t object)) ≡ true
  pub next_description : s.next_description ≡ t.descriptions.made
  pub next_object : s.next_object ≡ t.made_objects

-- a descriptor refers to the same in the table and in the state: to nothing, or to a description
-- that each has
pub data RefersAlike (t : TableState) (s : State) (descriptor : ℤ) : Type 0 where
  Shut : (table : described t descriptor ≡ Err EBADF)
      → (state : descriptors.described s descriptor ≡ Err EBADF) → RefersAlike t s descriptor
  Open : (key : ℕ) (d : Description)
      → (at : key_at t descriptor ≡ Some key)
      → (got : map.get t.descriptions.by_key key ≡ Some d)
      → (there : map.get s.descriptions d.birth ≡ Some (shown t d))
      → (table : described t descriptor ≡ Ok (key, d))
      → (state : descriptors.described s descriptor ≡ Ok (d.birth, shown t d))
      → RefersAlike t s descriptor
