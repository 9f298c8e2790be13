-- Internal: no contract of the headline or of a command stands on it.
-- By which number the entry of a path is looked for.
use Rattle.std.specs.Prelude.{ℕ, List, fold}
use Rattle.std.specs.Hash.FoldHasher.{initial, write, finish}
use Rattle.std.specs.declared.hash.FoldHasher.{FoldHasher}

-- the hash after these components were written to a hasher, one after another
unfoldable pub hash_from : FoldHasher → List (List ℕ) → ℕ
hash_from hasher components = finish (fold write hasher components)

-- the hash of these components
abbrev pub hash_of : List (List ℕ) → ℕ
hash_of components = hash_from initial components
