-- Believed: a contract of the headline stands on it.
-- The calls that change what paths name.
-- POSIX.1-2017, System Interfaces: `link`, `unlink`, `rename`, `mkdir`, `rmdir`.
use Rattle.std.specs.Prelude.{ℕ, List, length, take, Bool, ◌&&◌, ◌==◌, nat_lt, nat_eq, Result, Ok}
use Rattle.std.specs.Prelude.{Err, Option, Some, None, is_some, if◌then◌else◌, count_by, not}
use Rattle.std.specs.Cmp.Lexicographic.{pointwise}
use Rattle.std.specs.FinMap.{FinMap}
use Rattle.std.specs.List.{list_any}
use Rattle.sequential_object.specs.Descriptors.{is_file}
use Rattle.sequential_object.specs.Object.{State, Node, FileNode, Directory, path_cmp}
use Rattle.sequential_object.specs.Paths.{components_of}
use Rattle.sequential_object.specs.Refusals.{◌>>=◌, refuse_if}
use Rattle.posix_terms.specs.declared.errno.Errno.{Errno}
use Rattle.posix_terms.specs.declared.errno.Errno.TheVariants.{ENOENT, EEXIST, ENOTDIR, EISDIR}
use Rattle.posix_terms.specs.declared.errno.Errno.TheVariants.{EINVAL, ENOTEMPTY, EPERM, ENOSPC}
use Rattle.posix_terms.specs.declared.errno.Errno.TheVariants.{EBUSY}
use Rattle.sequential_object.specs.View.{View}
use Rattle.sequential_object.specs.declared.decision.Change.{Change}
use Rattle.sequential_object.specs.declared.decision.Decision.{Decision}
use Rattle.sequential_object.specs.Deciding.{tells}
use Rattle.std.specs.FinMap as map
use Rattle.posix_terms.specs.declared.reply.Reply.TheVariants as reply
use Rattle.sequential_object.specs.declared.decision.Act.TheVariants as act
use Rattle.sequential_object.specs.declared.decision.Change.TheVariants as change
use Rattle.sequential_object.specs.declared.decision.Decision.TheVariants as decision
use Rattle.sequential_object.specs.declared.decision.Deed.TheVariants as deed

-- what each whole path but the root names
abbrev pub PathMap : Type 0
PathMap = FinMap path_cmp Node

-- how many names a file has
abbrev pub links_of : PathMap → ℕ → ℕ
links_of paths object =
    count_by (λ (entry : List (List ℕ) × Node). is_file entry.1 object) (map.entries paths)

-- a file with its new name in the place of the old one
abbrev pub moved : PathMap → List (List ℕ) → List (List ℕ) → ℕ → PathMap
moved paths old new object = map.insert (map.remove paths old) new (FileNode object)

-- a path that leads on from a directory
abbrev pub is_inside : List (List ℕ) → List (List ℕ) → Bool
is_inside directory path =
    nat_lt (length directory) (length path)
    && pointwise (pointwise nat_eq) directory (take (length directory) path)

-- whether something is inside this directory
abbrev pub has_entries : PathMap → List (List ℕ) → Bool
has_entries paths directory =
    list_any (λ (entry : List (List ℕ) × Node). is_inside directory entry.0) (map.entries paths)

-- the state with other names
abbrev pub with_paths : State → PathMap → State
with_paths s paths = record s { paths = paths }

-- the file of a name; a directory is refused with this error
abbrev pub file_at : Option Node → Errno → Result ℕ Errno
file_at None e = Err ENOENT
file_at (Some Directory) e = Err e
file_at (Some (FileNode object)) e = Ok object

-- the file that a path names; a directory is refused with this error
unfoldable pub file_named : View → List ℕ → Errno → Result ℕ Errno
file_named v path e = do
  node ← v.named path
  file_at node e

-- the path names nothing, and there is room for one more name
unfoldable pub addable : View → List ℕ → Result (Unit {0}) Errno
addable v path = do
  node ← v.named path
  _ ← refuse_if (is_some node) EEXIST
  refuse_if v.names_full ENOSPC

-- `link`; a directory is refused, since it has one name
unfoldable pub link_decided : View → List ℕ → List ℕ → Result Decision Errno
link_decided v old_path new_path = do
  object ← file_named v old_path EPERM
  _ ← addable v new_path
  Ok (decision.Replies reply.Done (change.AddFile object))

-- a file ends with a name that it loses: that is its last one, and no description is of it
unfoldable pub ends_by_name : View → ℕ → Bool
ends_by_name v object = not (v.is_open object) && (v.links object == 1)

-- a call takes a name from a file: it locks the file where that ends with it, and else the table
-- alone replies
abbrev pub loses_name : View → ℕ → Change → Decision
loses_name v object changes =
    if ends_by_name v object then decision.Locks object (deed.Acts act.Release changes) else
    decision.Replies reply.Done changes

-- `unlink`
unfoldable pub unlink_decided : View → List ℕ → Result Decision Errno
unlink_decided v path = do
  object ← file_named v path EPERM
  Ok (loses_name v object (change.RemoveFile object))

-- `rename` of a file to a name that nothing or a file has; two names of one file both stay
abbrev pub renames : View → ℕ → Option Node → Result Decision Errno
renames v object None = Ok (decision.Replies reply.Done (change.Rename object None))
renames v object (Some Directory) = Err EISDIR
renames v object (Some (FileNode other)) =
    Ok (if other == object then tells reply.Done else
    loses_name v other (change.Rename object (Some other)))

-- `rename`
unfoldable pub rename_decided : View → List ℕ → List ℕ → Result Decision Errno
rename_decided v old_path new_path = do
  object ← file_named v old_path EINVAL
  node ← v.named new_path
  renames v object node

-- `mkdir`
unfoldable pub mkdir_decided : View → List ℕ → Result Decision Errno
mkdir_decided v path = do
  _ ← addable v path
  Ok (decision.Replies reply.Done change.AddDirectory)

-- a directory that can lose its name: it is not the root, and nothing is inside
abbrev pub removable : View → List ℕ → Option Node → Result (Unit {0}) Errno
removable v path None = Err ENOENT
removable v path (Some (FileNode object)) = Err ENOTDIR
removable v path (Some Directory) = do
  _ ← refuse_if (length (components_of path) == 0) EBUSY
  refuse_if (v.has_entries path) ENOTEMPTY

-- `rmdir`
unfoldable pub rmdir_decided : View → List ℕ → Result Decision Errno
rmdir_decided v path = do
  node ← v.named path
  _ ← removable v path node
  Ok (decision.Replies reply.Done change.RemoveDirectory)
