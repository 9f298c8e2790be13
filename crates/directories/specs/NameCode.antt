-- Internal: no contract of the headline or of a command stands on it.
-- How the map of the names is stored in a value that holds it.
use Rattle.std.specs.Prelude.{◌≡◌, ℕ, Option, Some, None, refl}
use Rattle.std.specs.Coded.{Coded, code_by, coded_list, coded_option, coded_ℕ}
use Rattle.std.specs.FinMap as fin
use Rattle.sequential_object.specs.Object.{Node, FileNode, Directory}
use Rattle.sequential_object.specs.Names.{PathMap}

-- the file that a path names, if it is not a directory
abbrev pub file_in : Node → Option ℕ
file_in (FileNode object) = Some object
file_in Directory = None

-- this file, or a directory where there is none
abbrev pub node_with : Option ℕ → Node
node_with (Some object) = FileNode object
node_with None = Directory

-- what a path names is the same again after it was stored
abbrev pub node_again : (node : Node) → node_with (file_in node) ≡ node
node_again (FileNode object) = refl
node_again Directory = refl

-- what a path names, as its file or none
abbrev pub node_code : Coded Node
node_code = code_by (Option ℕ) (coded_option coded_ℕ) file_in node_with node_again

-- the names, each as the components of its path and what it names
abbrev pub path_map_code : Coded PathMap
path_map_code = fin.code (coded_list (coded_list coded_ℕ)) node_code
