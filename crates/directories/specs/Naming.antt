-- Internal: no contract of the headline or of a command stands on it.
-- What the names are after a change, or why it is refused.
use Rattle.std.specs.Prelude.{ℕ, List, length, ◌==◌, nat_le, Result, Ok, Err, Option, Some, None}
use Rattle.std.specs.Prelude.{is_some, if◌then◌else◌}
use Rattle.sequential_object.specs.Names.{PathMap, has_entries, moved}
use Rattle.sequential_object.specs.Object.{Node, FileNode, Directory}
use Rattle.sequential_object.specs.Paths.{node_at, resolved}
use Rattle.sequential_object.specs.Refusals.{◌>>=◌, refuse_if}
use Rattle.posix_terms.specs.declared.errno.Errno.{Errno}
use Rattle.posix_terms.specs.declared.errno.Errno.TheVariants.{ENOENT, EEXIST, ENOTDIR, EISDIR}
use Rattle.posix_terms.specs.declared.errno.Errno.TheVariants.{EINVAL, ENOTEMPTY, EPERM, ENOSPC}
use Rattle.posix_terms.specs.declared.errno.Errno.TheVariants.{EBUSY}
use Rattle.std.specs.FinMap as map
use Rattle.posix_terms.specs.declared.limits.TheConstants.Limits as limit

-- the file of a name, which is not to be a directory
abbrev pub file_node : Option Node → Result ℕ Errno
file_node None = Err ENOENT
file_node (Some Directory) = Err EPERM
file_node (Some (FileNode object)) = Ok object

-- with a new name for this node
unfoldable pub added : PathMap → List ℕ → Node → Result PathMap Errno
added paths path node = do
  components ← resolved paths path
  _ ← refuse_if (is_some (node_at paths components)) EEXIST
  _ ← refuse_if (nat_le limit.NAMES (map.len paths)) ENOSPC
  Ok (map.insert paths components node)

-- without the name of a file, and the file that had it
unfoldable pub removed : PathMap → List ℕ → Result (PathMap × ℕ) Errno
removed paths path = do
  components ← resolved paths path
  object ← file_node (node_at paths components)
  Ok (map.remove paths components, object)

-- the file to rename; a directory keeps its name
abbrev pub renamed_node : Option Node → Result ℕ Errno
renamed_node None = Err ENOENT
renamed_node (Some Directory) = Err EINVAL
renamed_node (Some (FileNode object)) = Ok object

-- the file that has the new name, if one has it; a directory keeps that too
abbrev pub replaced_node : Option Node → Result (Option ℕ) Errno
replaced_node None = Ok None
replaced_node (Some Directory) = Err EISDIR
replaced_node (Some (FileNode object)) = Ok (Some object)

-- that, and the file that loses its name to it; two names of one file both stay
abbrev pub replacing : PathMap → List (List ℕ) → List (List ℕ) → ℕ → Option ℕ → PathMap × Option ℕ
replacing paths old new object None = (moved paths old new object, None)
replacing paths old new object (Some other) =
    if other == object then (paths, None)
    else (moved paths old new object, Some other)

-- with the new name of a file, and the file that lost it
unfoldable pub renamed : PathMap → List ℕ → List ℕ → Result (PathMap × Option ℕ) Errno
renamed paths old_path new_path = do
  old ← resolved paths old_path
  object ← renamed_node (node_at paths old)
  new ← resolved paths new_path
  replaced ← replaced_node (node_at paths new)
  Ok (replacing paths old new object replaced)

-- without the name of a directory: it is not the root, and nothing is inside
abbrev pub removed_dir_at : PathMap → List (List ℕ) → Option Node → Result PathMap Errno
removed_dir_at paths components None = Err ENOENT
removed_dir_at paths components (Some (FileNode object)) = Err ENOTDIR
removed_dir_at paths components (Some Directory) = do
  _ ← refuse_if (length components == 0) EBUSY
  _ ← refuse_if (has_entries paths components) ENOTEMPTY
  Ok (map.remove paths components)

-- without the name of the directory that has this path
unfoldable pub removed_dir : PathMap → List ℕ → Result PathMap Errno
removed_dir paths path = do
  components ← resolved paths path
  removed_dir_at paths components (node_at paths components)
