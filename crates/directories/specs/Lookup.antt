-- Internal: no contract of the headline or of a command stands on it.
-- What a path names, and what two paths name; a name in the place of another one.
-- POSIX.1-2017, Base Definitions, 4.13 (pathname resolution).
use Rattle.std.specs.Prelude.{◌≡◌, ℕ, List, Result, Ok, Option, Some}
use Rattle.std.specs.FinMap as fin
use Rattle.sequential_object.specs.Names.{PathMap, moved}
use Rattle.directories.specs.Naming.{renamed_node, replaced_node}
use Rattle.sequential_object.specs.Object.{Node, FileNode}
use Rattle.sequential_object.specs.Paths.{components_of, node_at, resolved}
use Rattle.sequential_object.specs.Refusals.{◌>>=◌}
use Rattle.posix_terms.specs.declared.errno.Errno.{Errno}

-- what a path names, if its prefix is there
unfoldable pub looked_up : PathMap → List ℕ → Result (Option Node) Errno
looked_up paths path = do
  components ← resolved paths path
  Ok (node_at paths components)

-- a path names this file
abbrev pub NamesFile : PathMap → List ℕ → ℕ → Type 0
NamesFile paths path object = fin.get paths (components_of path) ≡ Some (FileNode object)

-- the file to rename, and the file that has the new name, if one has it
unfoldable pub renaming : PathMap → List ℕ → List ℕ → Result (ℕ × Option ℕ) Errno
renaming paths old_path new_path = do
  old ← resolved paths old_path
  object ← renamed_node (node_at paths old)
  new ← resolved paths new_path
  replaced ← replaced_node (node_at paths new)
  Ok (object, replaced)

-- a file with the new path in the place of the old one
abbrev pub moved_name : PathMap → List ℕ → List ℕ → ℕ → PathMap
moved_name paths old_path new_path object =
    moved paths (components_of old_path) (components_of new_path) object
