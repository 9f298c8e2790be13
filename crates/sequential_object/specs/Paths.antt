-- Believed: a contract of the headline stands on it.
-- Paths, and what they name. POSIX.1-2017, Base Definitions, 4.13 (pathname resolution), without
-- `.`, `..`, symbolic links and trailing slashes.
use Rattle.std.specs.Prelude.{ℕ, List, [], ◌∷◌, ◌++◌, length, Bool, ◌&&◌, ◌||◌, ◌==◌, nat_lt}
use Rattle.std.specs.Prelude.{nat_eq, Result, Ok, Err, Option, Some, None, codes, slice_index}
use Rattle.std.specs.Prelude.{◌-◌}
use Rattle.std.specs.List.{list_any}
use Rattle.std.specs.Cmp.Lexicographic.{pointwise}
use Rattle.std.specs.FinMap as map
use Rattle.std.specs.FinMap.{FinMap}
use Rattle.sequential_object.specs.Object.{Node, FileNode, Directory, path_cmp}
use Rattle.sequential_object.specs.Refusals.{◌>>=◌, refuse_if}
use Rattle.posix_terms.specs.Text.{pieces_of}
use Rattle.posix_terms.specs.declared.errno.Errno.{Errno}
use Rattle.posix_terms.specs.declared.errno.Errno.TheVariants.{EINVAL, ENOENT, ENOTDIR}
use Rattle.posix_terms.specs.declared.errno.Errno.TheVariants.{ENAMETOOLONG}
use Rattle.posix_terms.specs.declared.limits.TheConstants.Limits as limit

-- the byte `/`
abbrev pub slash : ℕ
slash = 47

-- Empty components do not count: several slashes are as one, and slashes alone are the root
abbrev pub components_of : List ℕ → List (List ℕ)
components_of path = pieces_of slash path

-- whether a component is `.` or `..`
abbrev pub is_dots : List ℕ → Bool
is_dots name = pointwise nat_eq name (codes ".") || pointwise nat_eq name (codes "..")

-- there is a component, and the path goes on after the last one
abbrev pub has_trailing_slash : List ℕ → Bool
has_trailing_slash path =
    nat_lt 0 (length (components_of path)) && (slice_index path (length path - 1) == slash)

-- the components of a path that is well formed
unfoldable pub path_form : List ℕ → Result (List (List ℕ)) Errno
path_form path = do
  _ ← refuse_if (length path == 0) ENOENT
  _ ← refuse_if (nat_lt limit.PATH_BYTES (length path)) ENAMETOOLONG
  _ ← refuse_if (list_any (λ b. b == 0) path) EINVAL
  _ ← refuse_if (list_any is_dots (components_of path)) EINVAL
  _ ← refuse_if (has_trailing_slash path) EINVAL
  _ ← refuse_if
      (list_any (λ name. nat_lt limit.NAME_BYTES (length name)) (components_of path)) ENAMETOOLONG
  Ok (components_of path)

-- what a list of components names, if anything: none of them is the root
abbrev pub node_at : FinMap path_cmp Node → List (List ℕ) → Option Node
node_at paths [] = Some Directory
node_at paths (name ∷ names) = map.get paths (name ∷ names)

-- whether a path may lead on through what stands there
abbrev pub passed : Option Node → Result (Unit {0}) Errno
passed None = Err ENOENT
passed (Some (FileNode object)) = Err ENOTDIR
passed (Some Directory) = Ok tt

-- Each component but the last must lead to a directory, from the left; `before` are those already
-- passed
abbrev pub walked : FinMap path_cmp Node → List (List ℕ) → List (List ℕ) → Result (Unit {0}) Errno
walked paths before [] = Ok tt
walked paths before (name ∷ []) = Ok tt
walked paths before (name ∷ next ∷ names) =
    passed (node_at paths (before ++ name ∷ []))
    >>= (λ _. walked paths (before ++ name ∷ []) (next ∷ names))

-- the components of a path whose prefix is there; whether it names something itself is left to the
-- call
abbrev pub resolved : FinMap path_cmp Node → List ℕ → Result (List (List ℕ)) Errno
resolved paths path = do
  components ← path_form path
  _ ← walked paths [] components
  Ok components
