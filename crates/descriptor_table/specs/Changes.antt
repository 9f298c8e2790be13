-- Internal: no contract of the headline or of a command stands on it.
-- What each change does to the table: to its descriptors, descriptions and names, and to the
-- numbers of its objects.
use Rattle.std.specs.Prelude.{◌≡◌, ℕ, ◌+◌, ◌<◌, ◌≤◌, ◌^◌, pos, List, length, slice_index_or}
use Rattle.std.specs.Prelude.{slice_set, true, false, Option, Some, None, if◌then◌else◌}
use Rattle.std.specs.FinMap as map
use Rattle.sequential_object.specs.Names.{PathMap}
use Rattle.sequential_object.specs.Object.{Node, FileNode, Directory}
use Rattle.sequential_object.specs.Paths.{components_of}
use Rattle.posix_terms.specs.declared.call.Access.{Access}
use Rattle.posix_terms.specs.declared.call.Access.TheVariants.{ReadOnly, WriteOnly, ReadWrite}
use Rattle.posix_terms.specs.Calls.{Call}
use Rattle.posix_terms.specs.declared.call.Call.TheVariants as call
use Rattle.posix_terms.specs.declared.limits.TheConstants.Limits as limit
use Rattle.posix_terms.specs.declared.object.End.{End}
use Rattle.posix_terms.specs.declared.object.End.TheVariants as part
use Rattle.posix_terms.specs.declared.object.Side.TheVariants.{Side0, Side1}
use Rattle.directories.specs.Lookup.{NamesFile, moved_name}
use Rattle.file_descriptions.specs.Descriptions.{ContainsKey, description_at, is_last_held}
use Rattle.file_descriptions.specs.Descriptions.{new_description, with_flags, with_holder, with_new}
use Rattle.file_descriptions.specs.Descriptions.{without_holder}
use Rattle.file_descriptions.specs.declared.description.StatusFlags.{StatusFlags}
use Rattle.sequential_object.specs.Changes.{door_of, old_path_of, path_of}
use Rattle.sequential_object.specs.declared.decision.Change.{Change}
use Rattle.sequential_object.specs.declared.decision.Change.TheVariants as change
use Rattle.sequential_object.specs.declared.decision.NewDescriptor.{NewDescriptor}
use Rattle.sequential_object.specs.declared.decision.NewEnds.{NewEnds}
use Rattle.descriptor_table.specs.Table.{TableState, free_object, is_gone, is_used, key_at}

-- ## Descriptors

-- number n refers to the description of this key too
abbrev pub shared : TableState → ℕ → ℕ → TableState
shared t n key = record t {
  descriptors = slice_set t.descriptors n (Some key);
  descriptions = with_holder t.descriptions key;
}

-- number n refers to its description no longer
abbrev pub let_go : TableState → ℕ → ℕ → TableState
let_go t n key = record t {
  descriptors = slice_set t.descriptors n None;
  descriptions = without_holder t.descriptions key;
}

-- the number of an object that nothing refers to is free
abbrev pub without_gone : TableState → ℕ → TableState
without_gone t object =
    if is_gone t object then record t { objects = slice_set t.objects object None }
    else t

-- number n is closed
abbrev pub closed : TableState → ℕ → ℕ → TableState
closed t n key =
    if is_last_held t.descriptions key
    then without_gone (let_go t n key) (description_at t.descriptions key).node
    else let_go t n key

-- ## Names

-- the table with other names
abbrev pub with_paths : TableState → PathMap → TableState
with_paths t paths = record t { paths = paths }

-- the names, once the path of a call names this
abbrev pub named : TableState → Call → Node → PathMap
named t c node = map.insert t.paths (components_of (path_of c)) node

-- the names, once the path of a call names nothing
abbrev pub unnamed : TableState → Call → PathMap
unnamed t c = map.remove t.paths (components_of (path_of c))

-- the names after a `rename`: the new path names the file, in the place of the old one
abbrev pub renamed : TableState → Call → ℕ → PathMap
renamed t c object = moved_name t.paths (old_path_of c) (path_of c) object

-- a file lost a name, or none did
abbrev pub without_lost : TableState → Option ℕ → TableState
without_lost t None = t
without_lost t (Some object) = without_gone t object

-- ## New objects and descriptors

-- a new object that no path names
abbrev pub with_object : TableState → ℕ → TableState
with_object t object = record t {
  objects = slice_set t.objects object (Some t.made_objects);
  made_objects = t.made_objects + 1;
}

-- a new file, which has this number and one name
abbrev pub with_file : TableState → PathMap → ℕ → TableState
with_file t paths object = record t {
  paths = paths;
  objects = slice_set t.objects object (Some t.made_objects);
  made_objects = t.made_objects + 1;
}

-- number n refers to a new description of an end of an object, under this key
abbrev pub opened : TableState → ℕ → ℕ → ℕ → End → Access → StatusFlags → TableState
opened t n key object which access flags =
    record t {
      descriptors = slice_set t.descriptors n (Some key);
      descriptions =
          with_new t.descriptions key
          (new_description object which access flags t.descriptions.made);
    }

-- the status flags with which a descriptor is opened
abbrev pub flags_of : NewDescriptor → StatusFlags
flags_of new = record { append = new.append; nonblock = new.nonblock }

-- The new description may have any key that is free
abbrev pub IsOpened : TableState → NewDescriptor → End → TableState → Type 0
IsOpened t new which after =
    (key : ℕ) × (map.get t.descriptions.by_key key ≡ None)
    × (after ≡ opened t new.number key new.object which new.access (flags_of new))

-- both flags are clear
abbrev pub no_flags : StatusFlags
no_flags = record { append = false; nonblock = false }

-- Each new description may have any key that is free
abbrev pub AreOpened : TableState → End × Access → End × Access → NewEnds → TableState → Type 0
AreOpened t one other new after =
    (key : ℕ) × (map.get t.descriptions.by_key key ≡ None)
    × (let between = opened
    (with_object t new.object) new.first key new.object one.0 one.1 no_flags in
    (next : ℕ) × (map.get between.descriptions.by_key next ≡ None)
    × (after ≡ opened between new.second next new.object other.0 other.1 no_flags))

-- ## All changes

-- the table after a change of a call, whichever free keys its new descriptions get
abbrev pub Changed : TableState → Call → Change → TableState → Type 0
Changed t c change.Nothing after = after ≡ t
Changed t c (change.Share n key) after = after ≡ shared t n key
Changed t c (change.Close n key) after = after ≡ closed t n key
Changed t c (change.Replace n old_key key) after = after ≡ shared (closed t n old_key) n key
Changed t c (change.SetFlags key append nonblock) after =
    let flags : StatusFlags = record { append = append; nonblock = nonblock } in
    after ≡ record t { descriptions = with_flags t.descriptions key flags }
Changed t c (change.AddFile object) after = after ≡ with_paths t (named t c (FileNode object))
Changed t c change.AddDirectory after = after ≡ with_paths t (named t c Directory)
Changed t c (change.RemoveFile object) after =
    after ≡ without_gone (with_paths t (unnamed t c)) object
Changed t c change.RemoveDirectory after = after ≡ with_paths t (unnamed t c)
Changed t c (change.Rename object lost) after =
    after ≡ without_lost (with_paths t (renamed t c object)) lost
Changed t c (change.OpenFile new) after = IsOpened t new part.Only after
Changed t c (change.MakeFile new) after =
    IsOpened (with_file t (named t c (FileNode new.object)) new.object) new part.Only after
Changed t c (change.MakePipe new) after =
    AreOpened t (part.Read, ReadOnly) (part.Write, WriteOnly) new after
Changed t c (change.MakeSockets new) after =
    AreOpened t (part.Socket Side0, ReadWrite) (part.Socket Side1, ReadWrite) new after

-- a door was opened outside with this value
abbrev pub IsDoorOpened : TableState → Call → NewDescriptor → ℕ → TableState → Type 0
IsDoorOpened t c new value after =
    IsOpened (with_object t new.object) new (part.Door (door_of c value)) after

-- the value of a success is a port, where a listener is opened
abbrev pub IsPortOf : Call → ℕ → Type 0
IsPortOf (call.TcpListen port) value = value < 2 ^ 16
IsPortOf c value = Unit {0}

-- ## What a change needs

-- a descriptor number that is free
abbrev pub IsFreeNumber : TableState → ℕ → Type 0
IsFreeNumber t n = (n < limit.DESCRIPTORS) × (key_at t (pos n) ≡ None)

-- a descriptor that refers to this description
abbrev pub Refers : TableState → ℕ → ℕ → Type 0
Refers t n key = (n < limit.DESCRIPTORS) × (key_at t (pos n) ≡ Some key)

-- the next number of an object, which is free
abbrev pub IsNextObject : TableState → ℕ → Type 0
IsNextObject t object =
    (object < limit.OBJECTS) × (slice_index_or t.objects object None ≡ None)
    × (free_object t ≡ Some object)

-- a path names nothing, and there is room for one more name
abbrev pub IsFreePath : PathMap → List ℕ → Type 0
IsFreePath paths path =
    (map.len paths < limit.NAMES) × (length path ≤ limit.PATH_BYTES)
    × (map.get paths (components_of path) ≡ None)

-- the old path names this file, and the new one is not too long
abbrev pub CanMove : PathMap → List ℕ → List ℕ → ℕ → Type 0
CanMove paths old_path new_path object =
    NamesFile paths old_path object × (length new_path ≤ limit.PATH_BYTES)

-- a name of a file is one of a file that is there
abbrev pub NamesUsed : TableState → Node → Type 0
NamesUsed t (FileNode object) = is_used t object ≡ true
NamesUsed t Directory = Unit {0}

-- the object that is made next has two ends, at numbers that are free
abbrev pub CanMakeEnds : TableState → NewEnds → Type 0
CanMakeEnds t new =
    IsFreeNumber t new.first × IsFreeNumber t new.second × (new.first < new.second)
    × IsNextObject t new.object

-- what a change needs, so that what it leaves is a table
abbrev pub CanChange : TableState → Call → Change → Type 0
CanChange t c change.Nothing = Unit {0}
CanChange t c (change.Share n key) = IsFreeNumber t n × ContainsKey t.descriptions key
CanChange t c (change.Close n key) = Refers t n key
CanChange t c (change.Replace n old_key key) =
    Refers t n old_key × ContainsKey (closed t n old_key).descriptions key
CanChange t c (change.SetFlags key append nonblock) = ContainsKey t.descriptions key
CanChange t c (change.AddFile object) =
    IsFreePath t.paths (path_of c) × NamesUsed t (FileNode object)
CanChange t c change.AddDirectory = IsFreePath t.paths (path_of c) × NamesUsed t Directory
CanChange t c (change.RemoveFile object) = Unit {0}
CanChange t c change.RemoveDirectory = Unit {0}
CanChange t c (change.Rename object lost) =
    CanMove t.paths (old_path_of c) (path_of c) object
CanChange t c (change.OpenFile new) = IsFreeNumber t new.number × (is_used t new.object ≡ true)
CanChange t c (change.MakeFile new) =
    IsFreeNumber t new.number × IsNextObject t new.object × IsFreePath t.paths (path_of c)
CanChange t c (change.MakePipe new) = CanMakeEnds t new
CanChange t c (change.MakeSockets new) = CanMakeEnds t new
