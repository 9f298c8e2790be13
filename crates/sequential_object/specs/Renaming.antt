-- Internal: no contract of the headline or of a command stands on it.
-- What is decided does not depend on which names objects and descriptions have.
use Rattle.std.specs.Prelude.{◌≡◌, ◌⊎◌, ℕ, ◌==◌, ℤ, List, Result, Ok, Err}
use Rattle.std.specs.Option.{option_map}
use Rattle.sequential_object.specs.Object.{Node, FileNode, Directory}
use Rattle.posix_terms.specs.Calls.{Call}
use Rattle.posix_terms.specs.declared.carried.Moved.{Moved}
use Rattle.posix_terms.specs.declared.errno.Errno.{Errno}
use Rattle.sequential_object.specs.Decided.{decided}
use Rattle.sequential_object.specs.So.{IsNamed, IsReferred}
use Rattle.sequential_object.specs.View.{View}
use Rattle.sequential_object.specs.declared.decision.Act.{Act}
use Rattle.sequential_object.specs.declared.decision.Change.{Change}
use Rattle.sequential_object.specs.declared.decision.Decision.{Decision}
use Rattle.sequential_object.specs.declared.decision.Deed.{Deed}
use Rattle.sequential_object.specs.declared.decision.NewDescriptor.{NewDescriptor}
use Rattle.sequential_object.specs.declared.decision.NewEnds.{NewEnds}
use Rattle.sequential_object.specs.declared.decision.Seen.{Seen}
use Rattle.sequential_object.specs.declared.decision.Act.TheVariants as act
use Rattle.sequential_object.specs.declared.decision.Change.TheVariants as change
use Rattle.sequential_object.specs.declared.decision.Decision.TheVariants as decision
use Rattle.sequential_object.specs.declared.decision.Deed.TheVariants as deed

-- ## Other names

-- the other name of each key of a description, and of each object
pub record Names : Type 0 where
  pub key : ℕ → ℕ
  pub object : ℕ → ℕ

-- the birth of a description is not a name
abbrev pub seen_by : Names → Seen → Seen
seen_by r at = record at { key = r.key at.key; object = r.object at.object }

-- what a path names, under other names
abbrev pub node_by : Names → Node → Node
node_by r (FileNode object) = FileNode (r.object object)
node_by r Directory = Directory

-- an act, under other names
abbrev pub act_by : Names → Act → Act
act_by r (act.Read from count) = act.Read (seen_by r from) count
act_by r (act.Write to before) = act.Write (seen_by r to) before
act_by r (act.Lseek at) = act.Lseek (seen_by r at)
act_by r a = a

-- a descriptor to be opened, under other names
abbrev pub new_by : Names → NewDescriptor → NewDescriptor
new_by r new = record new { object = r.object new.object }

-- the two descriptors of a new object, under other names
abbrev pub ends_by : Names → NewEnds → NewEnds
ends_by r new = record new { object = r.object new.object }

-- a change, under other names
abbrev pub change_by : Names → Change → Change
change_by r change.Nothing = change.Nothing
change_by r (change.Share n key) = change.Share n (r.key key)
change_by r (change.Close n key) = change.Close n (r.key key)
change_by r (change.Replace n old_key key) = change.Replace n (r.key old_key) (r.key key)
change_by r (change.SetFlags key append nonblock) = change.SetFlags (r.key key) append nonblock
change_by r (change.AddFile object) = change.AddFile (r.object object)
change_by r change.AddDirectory = change.AddDirectory
change_by r (change.RemoveFile object) = change.RemoveFile (r.object object)
change_by r change.RemoveDirectory = change.RemoveDirectory
change_by r (change.Rename object lost) =
    change.Rename (r.object object) (option_map r.object lost)
change_by r (change.OpenFile new) = change.OpenFile (new_by r new)
change_by r (change.MakeFile new) = change.MakeFile (new_by r new)
change_by r (change.MakePipe new) = change.MakePipe (ends_by r new)
change_by r (change.MakeSockets new) = change.MakeSockets (ends_by r new)

-- what a call does with the object that it locks, under other names
abbrev pub deed_by : Names → Deed → Deed
deed_by r (deed.Acts a x) = deed.Acts (act_by r a) (change_by r x)
deed_by r (deed.Asks blocks) = deed.Asks blocks
deed_by r (deed.Closes n key) = deed.Closes n (r.key key)
deed_by r (deed.Opens blocks listener new) =
    deed.Opens blocks (option_map r.object listener) (new_by r new)

-- what is decided of a call, under other names
abbrev pub decision_by : Names → Decision → Decision
decision_by r (decision.Replies reply x) = decision.Replies reply (change_by r x)
decision_by r (decision.Locks object does) = decision.Locks (r.object object) (deed_by r does)

-- a success is renamed, and an error stays as it is
abbrev pub ok_by : {A : Type 0} → (A → A) → Result A Errno → Result A Errno
ok_by f (Ok x) = Ok (f x)
ok_by f (Err e) = Err e

-- ## Views under other names

-- two views of one table. Of objects in use alone the links and descriptions are alike
pub record Alike (r : Names) (v u : View) : Type 0 where
  pub described : (descriptor : ℤ)
      → u.described descriptor ≡ ok_by (seen_by r) (v.described descriptor)
  pub lowest : (n : ℕ) → u.lowest n ≡ v.lowest n
  pub named : (path : List ℕ) → u.named path ≡ ok_by (option_map (node_by r)) (v.named path)
  pub names_full : u.names_full ≡ v.names_full
  pub has_entries : (path : List ℕ) → u.has_entries path ≡ v.has_entries path
  pub links : (object : ℕ) → IsNamed v object ⊎ IsReferred v object
      → u.links (r.object object) ≡ v.links object
  pub is_open : (object : ℕ) → IsNamed v object → u.is_open (r.object object) ≡ v.is_open object
  pub next : u.next ≡ option_map r.object v.next
  pub apart : (object other : ℕ) → IsNamed v object → IsNamed v other
      → (r.object object == r.object other) ≡ (object == other)

-- of two such views the same is decided of a call, but for the names
abbrev pub DecidesAlike : Type 0
DecidesAlike =
    (r : Names) (v u : View) (c : Call) (moved : Moved) → Alike r v u
    → decided u c moved ≡ ok_by (decision_by r) (decided v c moved)
