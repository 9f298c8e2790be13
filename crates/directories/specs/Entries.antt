-- Internal: no contract of the headline or of a command stands on it.
-- How the names are kept: each with its path as it was written.
use Rattle.std.specs.Prelude.{◌≡◌, ℕ, ◌<◌, List, [], ◌∷◌, length, map, Some, None, slice_index_or}
use Rattle.std.specs.Prelude.{refl}
use Rattle.std.specs.FinMap as fin
use Rattle.std.specs.declared.cmp.Ordering.{Ordering}
use Rattle.sequential_object.specs.Object.{Node, FileNode, Directory, path_cmp}
use Rattle.sequential_object.specs.Paths.{components_of}
use Rattle.sequential_object.specs.Names.{PathMap}
use Rattle.directories.specs.Hashes.{hash_of}
use Rattle.directories.specs.declared.entry.Entry.{Entry}
use Rattle.directories.specs.declared.entry.Node.{Node as Named}
use Rattle.directories.specs.declared.entry.Node.TheVariants as named

-- what an entry names, as the sequential object has it
abbrev pub node_of : Named → Node
node_of (named.File object) = FileNode object
node_of named.Directory = Directory

-- the components of the path of an entry, and what it names
abbrev pub entry_of : Entry → List (List ℕ) × Node
entry_of e = (components_of e.path.items, node_of e.node)

-- an entry with the empty path, for a place that has none
abbrev pub no_entry : Entry
no_entry = record {
  path = record { items = [] };
  node = named.Directory;
  hash = hash_of [];
  count = 0;
  hashed = refl;
  counted = refl;
}

-- the entry at this place, or `no_entry` past the last one
abbrev pub entry_at : List Entry → ℕ → Entry
entry_at entries i = slice_index_or entries i no_entry

-- the map of these entries
unfoldable pub names_of : List Entry → PathMap
names_of entries = fin.from_entries (map entry_of entries)

-- no key stands twice
abbrev pub AreDistinct : {K X : Type 0} → (K → K → Ordering) → List (K × X) → Type 0
AreDistinct R [] = Unit {0}
AreDistinct R (entry ∷ entries) = (fin.find R entry.0 entries ≡ None) × AreDistinct R entries

-- the entry of this path stands at this place
pub record IsAt (entries : List Entry) (i : ℕ) (path : List (List ℕ)) : Type 0 where
  pub inside : i < length entries
  pub same_path : components_of (entry_at entries i).path.items ≡ path
  pub finds : fin.find path_cmp path (map entry_of entries)
      ≡ Some (node_of (entry_at entries i).node)
