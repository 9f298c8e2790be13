-- Believed: a contract of the headline stands on it.
-- What a change makes of the state: of all but contents and offsets; and of the content of what is
-- made or ends.
use Rattle.std.specs.Prelude.{ℕ, pos, [], false, Bool, List, Option, Some, None}
use Rattle.sequential_object.specs.Descriptors.{opened, freed, released, with_file, without_unused}
use Rattle.sequential_object.specs.Object.{State, Description, Content, Pipe, Pair, DoorTo}
use Rattle.sequential_object.specs.Object.{with_object, FileNode, Directory, Node}
use Rattle.sequential_object.specs.Streams.{new_pair}
use Rattle.posix_terms.specs.declared.call.Access.{Access}
use Rattle.posix_terms.specs.declared.call.Access.TheVariants.{ReadOnly, WriteOnly, ReadWrite}
use Rattle.posix_terms.specs.declared.object.End.{End}
use Rattle.posix_terms.specs.declared.object.Side.TheVariants.{Side0, Side1}
use Rattle.sequential_object.specs.Names.{moved, with_paths}
use Rattle.sequential_object.specs.Duplicates.{shared}
use Rattle.sequential_object.specs.Paths.{components_of}
use Rattle.posix_terms.specs.Calls.{Call}
use Rattle.posix_terms.specs.declared.object.Door.{Door}
use Rattle.sequential_object.specs.declared.decision.Change.{Change}
use Rattle.sequential_object.specs.declared.decision.NewDescriptor.{NewDescriptor}
use Rattle.sequential_object.specs.declared.decision.NewEnds.{NewEnds}
use Rattle.std.specs.FinMap as map
use Rattle.posix_terms.specs.declared.object.End.TheVariants as part
use Rattle.posix_terms.specs.declared.object.Door.TheVariants as door
use Rattle.posix_terms.specs.declared.call.Call.TheVariants as call
use Rattle.sequential_object.specs.declared.decision.Change.TheVariants as change

-- one end of a new object, and what it is open for
pub record NewEnd : Type 0 where
  pub which : End
  pub access : Access

-- the description of this key has these flags from now on
abbrev pub with_flags : State → ℕ → Description → Bool → Bool → State
with_flags s key d append nonblock =
    record s {
      descriptions = map.insert s.descriptions key
          (record d { append = append; nonblock = nonblock });
    }

-- ## What the call says

-- the path that a call gives a name, or takes it from; other calls change no name
abbrev pub path_of : Call → List ℕ
path_of (call.Open path access flags) = path
path_of (call.Link old_path new_path) = new_path
path_of (call.Unlink path) = path
path_of (call.Rename old_path new_path) = new_path
path_of (call.Mkdir path) = path
path_of (call.Rmdir path) = path
path_of c = []

-- the path whose name `rename` removes
abbrev pub old_path_of : Call → List ℕ
old_path_of (call.Rename old_path new_path) = old_path
old_path_of c = []

-- what a call opens outside, by the value of a success
abbrev pub door_of : Call → ℕ → Door
door_of (call.HostOpen path access flags) value = door.HostFile
door_of (call.TcpListen port) value = door.Listener value
door_of (call.TcpConnect port) value = door.Stream
door_of (call.TcpAccept descriptor) value = door.Stream
-- never met: no other call opens a door
door_of c value = door.Stream

-- ## Parts of changes

-- number n is closed, which refers to this description
abbrev pub closed : State → ℕ → ℕ → Option Description → State
closed s n key (Some d) = released (freed s (pos n)) key d
closed s n key None = s

-- a description has these flags
abbrev pub flagged : State → ℕ → (append nonblock : Bool) → Option Description → State
flagged s key append nonblock (Some d) = with_flags s key d append nonblock
flagged s key append nonblock None = s

-- the path of the call names this from now on
abbrev pub with_name : State → Call → Node → State
with_name s c node = with_paths s (map.insert s.paths (components_of (path_of c)) node)

-- the path of the call names nothing from now on
abbrev pub without_name : State → Call → State
without_name s c = with_paths s (map.remove s.paths (components_of (path_of c)))

-- a file lost a name, if one did
abbrev pub without_lost : State → Option ℕ → State
without_lost s (Some object) = without_unused s object
without_lost s None = s

-- the new path of the call names this file from now on, and the old one nothing
abbrev pub renamed : State → Call → ℕ → State
renamed s c object =
    with_paths s
    (moved s.paths (components_of (old_path_of c)) (components_of (path_of c)) object)

-- a new descriptor of this end of its object
abbrev pub opened_at : State → NewDescriptor → End → State
opened_at s new which =
    opened s new.number new.object which new.access new.append new.nonblock

-- a new object with two ends
abbrev pub with_ends : State → Content → NewEnd → NewEnd → NewEnds → State
with_ends s content one other new =
    let first =
    opened (with_object s content) new.first new.object one.which one.access false false in
    opened first new.second new.object other.which other.access false false

-- ## All changes

-- the state after a change of a call
abbrev pub changed : State → Call → Change → State
changed s c change.Nothing = s
changed s c (change.Share n key) = shared s n key
changed s c (change.Close n key) = closed s n key (map.get s.descriptions key)
changed s c (change.Replace n old_key key) =
    shared (closed s n old_key (map.get s.descriptions old_key)) n key
changed s c (change.SetFlags key append nonblock) =
    flagged s key append nonblock (map.get s.descriptions key)
changed s c (change.AddFile object) = with_name s c (FileNode object)
changed s c change.AddDirectory = with_name s c Directory
changed s c (change.RemoveFile object) = without_unused (without_name s c) object
changed s c change.RemoveDirectory = without_name s c
changed s c (change.Rename object lost) = without_lost (renamed s c object) lost
changed s c (change.OpenFile new) = opened_at s new part.Only
changed s c (change.MakeFile new) =
    opened_at (with_file s (components_of (path_of c))) new part.Only
changed s c (change.MakePipe new) =
    with_ends s (Pipe []) (record { which = part.Read; access = ReadOnly })
    (record { which = part.Write; access = WriteOnly }) new
changed s c (change.MakeSockets new) =
    with_ends s (Pair new_pair) (record { which = part.Socket Side0; access = ReadWrite })
    (record { which = part.Socket Side1; access = ReadWrite }) new

-- a door was opened outside
abbrev pub door_opened : State → Call → NewDescriptor → ℕ → State
door_opened s c new value =
    opened_at (with_object s (DoorTo (door_of c value))) new (part.Door (door_of c value))
