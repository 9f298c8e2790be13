-- Believed: a contract of the headline stands on it.
-- What refers to what, and what leaves the maps with the last that refers to it.
use Rattle.std.specs.Prelude.{ℕ, zero, suc, ◌+◌, ℤ, pos, negsuc, List, [], Bool, false, not, ◌&&◌}
use Rattle.std.specs.Prelude.{◌||◌, ◌==◌, Result, Ok, Option, Some, None, is_some, if◌then◌else◌}
use Rattle.std.specs.List.{list_any}
use Rattle.posix_terms.specs.Ends.{is_end}
use Rattle.sequential_object.specs.Object.{State, Description, File, Node, FileNode, Directory}
use Rattle.sequential_object.specs.Object.{any_below}
use Rattle.sequential_object.specs.Refusals.{◌>>=◌, some_or}
use Rattle.posix_terms.specs.declared.call.Access.{Access}
use Rattle.posix_terms.specs.declared.errno.Errno.{Errno}
use Rattle.posix_terms.specs.declared.errno.Errno.TheVariants.{EBADF}
use Rattle.posix_terms.specs.declared.object.End.{End}
use Rattle.std.specs.FinMap as map
use Rattle.posix_terms.specs.declared.limits.TheConstants.Limits as limit

-- the key of the description that a descriptor refers to
abbrev pub key_at : State → ℤ → Option ℕ
key_at s (pos n) = map.get s.descriptors n
key_at s (negsuc n) = None

-- that description, with its key
abbrev pub described : State → ℤ → Result (ℕ × Description) Errno
described s descriptor = do
  key ← some_or (key_at s descriptor) EBADF
  d ← some_or (map.get s.descriptions key) EBADF
  Ok (key, d)

-- the least of so many numbers from this one on that is not open
unfoldable pub lowest_from : State → ℕ → ℕ → Option ℕ
lowest_from s zero n = None
lowest_from s (suc left) n =
    if is_some (map.get s.descriptors n) then lowest_from s left (n + 1)
    else Some n

-- number n refers to a new description of an end of an object
abbrev pub opened : State → ℕ → ℕ → End → Access → Bool → Bool → State
opened s n object which access append nonblock =
    record s {
      descriptors = map.insert s.descriptors n s.next_description;
      descriptions =
          map.insert s.descriptions s.next_description
          (record {
            object = object;
            «end» = which;
            access = access;
            offset = 0;
            append = append;
            nonblock = nonblock;
          });
      next_description = s.next_description + 1;
    }

-- a new file with no bytes at this path
abbrev pub with_file : State → List (List ℕ) → State
with_file s components =
    record s {
      objects = map.insert s.objects s.next_object (File []);
      paths = map.insert s.paths components (FileNode s.next_object);
      next_object = s.next_object + 1;
    }

-- whether a descriptor refers to the description of this key
abbrev pub is_key : Option ℕ → ℕ → Bool
is_key None key = false
is_key (Some other) key = other == key

-- whether a description is of this object
abbrev pub is_of : Option Description → ℕ → Bool
is_of None object = false
is_of (Some d) object = d.object == object

-- whether a description is of this end of an object
abbrev pub is_of_end : Option Description → ℕ → End → Bool
is_of_end None object which = false
is_of_end (Some d) object which = (d.object == object) && is_end d.«end» which

-- whether what a path names is this file
abbrev pub is_file : Node → ℕ → Bool
is_file (FileNode other) object = other == object
is_file Directory object = false

-- whether any descriptor refers to the description of this key
abbrev pub has_descriptor : State → ℕ → Bool
has_descriptor s key = any_below limit.DESCRIPTORS (λ n. is_key (map.get s.descriptors n) key)

-- whether any description is of this object; keys in use are below the next one
abbrev pub has_description : State → ℕ → Bool
has_description s object =
    any_below s.next_description (λ key. is_of (map.get s.descriptions key) object)

-- whether any description is of this end of an object
abbrev pub has_end : State → ℕ → End → Bool
has_end s object which =
    any_below s.next_description (λ key. is_of_end (map.get s.descriptions key) object which)

-- whether a path names this file
abbrev pub has_path : State → ℕ → Bool
has_path s object =
    list_any (λ (entry : List (List ℕ) × Node). is_file entry.1 object) (map.entries s.paths)

-- an object that nothing refers to leaves the maps
abbrev pub without_unused : State → ℕ → State
without_unused s object =
    if has_description s object || has_path s object then s
    else record s { objects = map.remove s.objects object }

-- a description that no descriptor refers to leaves the maps, and then its object if nothing else
-- refers to it
abbrev pub released : State → ℕ → Description → State
released s key d =
    if has_descriptor s key then s else
    without_unused (record s { descriptions = map.remove s.descriptions key }) d.object

-- a descriptor is not open any more; its description is left as it was
abbrev pub freed : State → ℤ → State
freed s (pos n) = record s { descriptors = map.remove s.descriptors n }
freed s (negsuc n) = s

-- whether the description of a descriptor ends with it
abbrev pub is_last : State → ℤ → ℕ → Bool
is_last s descriptor key = not (has_descriptor (freed s descriptor) key)
