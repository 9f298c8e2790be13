-- The map of the names by the entries, and the walk along a path.
use Rattle.std.proofs.Common.{◌≡◌, ℕ, zero, suc, ◌+◌, ◌-◌, ◌<◌, ◌≤◌, List, [], ◌∷◌, ◌++◌, length, map, get_or, take}
use Rattle.std.proofs.Common.{drop, Option, Some, None, is_some, Bool, true, false, cond, ◌||◌, count_by, remove}
use Rattle.std.proofs.Common.{Result, Ok, Err, nat_eq, refl, sym, ap, ◌∙◌, add-one, length-drop, arith}
use Rattle.std.proofs.lemmas.List.{length-map}
use Rattle.std.proofs.lemmas.List.Sums.{sum_by-cons, count_by-le-length}
use Rattle.std.specs.List.{list_any}
use Rattle.std.specs.Option.{option_eq}
use Rattle.sequential_object.specs.Descriptors.{is_file}
use Rattle.std.specs.Cmp.{IsTotalOrder, eq_by_cmp_equiv, nat_cmp_total}
use Rattle.std.specs.Cmp.Lexicographic.{pointwise, lists_total, lists_ties, texts_ties}
use Rattle.std.specs.FinMap as fin
use Rattle.std.specs.FinMap.{IsAntisymmetric, nat_cmp-IsAntisymmetric, slice_cmp-IsAntisymmetric, get-from_entries}
use Rattle.std.specs.FinMap.{from_entries_push, get-insert, get-remove, len-remove, same_map}
use Rattle.std.specs.Ordering.{eq_by_cmp}
use Rattle.sequential_object.specs.Object.{Node, FileNode, Directory, path_cmp}
use Rattle.sequential_object.specs.Paths.{components_of, node_at, passed, path_form, resolved, walked}
use Rattle.sequential_object.specs.Refusals.{◌>>=◌}
use Rattle.posix_terms.specs.declared.errno.Errno.{Errno}
use Rattle.posix_terms.specs.declared.errno.Errno.TheVariants.{ENOENT, ENOTDIR}
use Rattle.posix_terms.specs.declared.limits.TheConstants.Limits as limit
use Rattle.directories.specs.Entries.{AreDistinct, IsAt, entry_of, entry_at, names_of, node_of, no_entry}
use Rattle.sequential_object.specs.Names.{PathMap, has_entries, is_inside, links_of, moved}
use Rattle.directories.specs.Naming.{renamed, replacing}
use Rattle.directories.specs.Lookup.{renaming}
use Rattle.directories.specs.declared.entry.Entry.{Entry}
use Rattle.directories.proofs.EntryLemmas.{AreDistinct-push, AreDistinct-remove, from_entries-remove, len-from_entries}
use Rattle.directories.proofs.EntryLemmas.{remove_none, tied, count_by-entries, list_any-entries}

path_total : IsTotalOrder path_cmp
path_total = lists_total (lists_total nat_cmp_total)

path_antisymmetric : IsAntisymmetric path_cmp
path_antisymmetric = slice_cmp-IsAntisymmetric (slice_cmp-IsAntisymmetric nat_cmp-IsAntisymmetric)

-- two paths with the same components tie
ties : (p q : List (List ℕ)) → pointwise (pointwise nat_eq) p q ≡ eq_by_cmp path_cmp q p
ties p q = lists_ties _ texts_ties p q ∙ (eq_by_cmp_equiv path_total).symm p q

item_is : {X : Type 0} (xs : List X) (i : ℕ) (x d : X) → i < length xs → x ≡ get_or xs i x → get_or xs i d ≡ x
item_is [] i x d h is = absurd (omega arith)
item_is (y ∷ ys) zero x d h is = sym is
item_is (y ∷ ys) (suc i) x d h is = item_is ys i x d (omega arith) is

-- ## Entries

pub get-names_of : (entries : List Entry) (path : List (List ℕ))
    → fin.get (names_of entries) path ≡ fin.find path_cmp path (map entry_of entries)
unfolding names_of
get-names_of entries path = get-from_entries path_total (map entry_of entries) path

pub len-names_of : (entries : List Entry) → AreDistinct path_cmp (map entry_of entries)
    → fin.len (names_of entries) ≡ length entries
unfolding names_of
len-names_of entries d = len-from_entries path_total path_antisymmetric (map entry_of entries) d
    ∙ length-map entries entry_of

pub names_of-none : names_of [] ≡ fin.empty
unfolding names_of
names_of-none = refl

map-push : (entries : List Entry) (entry : Entry) → map entry_of (entries ++ entry ∷ []) ≡ map entry_of entries
    ++ entry_of entry ∷ []
map-push [] entry = refl
map-push (x ∷ xs) entry = ap (λ es. entry_of x ∷ es) (map-push xs entry)

map-remove : (entries : List Entry) (i : ℕ) → map entry_of (remove entries i) ≡ remove (map entry_of entries) i
map-remove [] zero = refl
map-remove [] (suc i) = refl
map-remove (x ∷ xs) zero = refl
map-remove (x ∷ xs) (suc i) = ap (λ es. entry_of x ∷ es) (map-remove xs i)

get_or-map : (entries : List Entry) (i : ℕ) → i < length entries
    → get_or (map entry_of entries) i (entry_of no_entry) ≡ entry_of (entry_at entries i)
get_or-map [] i h = absurd (omega arith)
get_or-map (x ∷ xs) zero h = refl
get_or-map (x ∷ xs) (suc i) h = get_or-map xs i (omega arith)

pub names_of-push : (entries : List Entry) (entry : Entry) → fin.get (names_of entries) (entry_of entry).0 ≡ None
    → names_of (entries ++ entry ∷ []) ≡ fin.insert (names_of entries) (entry_of entry).0 (entry_of entry).1
unfolding names_of
names_of-push entries entry none =
    ap fin.from_entries (map-push entries entry)
    ∙ from_entries_push path_total path_antisymmetric (map entry_of entries) (entry_of entry).0 (entry_of entry).1
    (sym (get-names_of entries (entry_of entry).0) ∙ none)

pub AreDistinct-names_push : (entries : List Entry) (entry : Entry) → AreDistinct path_cmp (map entry_of entries)
    → fin.get (names_of entries) (entry_of entry).0 ≡ None → AreDistinct path_cmp (map entry_of (entries ++ entry ∷ []))
AreDistinct-names_push entries entry d none =
    rw (map-push entries entry) (AreDistinct-push path_total path_antisymmetric (map entry_of entries)
    (entry_of entry).0 (entry_of entry).1 d (sym (get-names_of entries (entry_of entry).0) ∙ none))

pub names_of-remove : (entries : List Entry) (i : ℕ) (path : List (List ℕ))
    → AreDistinct path_cmp (map entry_of entries) → IsAt entries i path
    → names_of (remove entries i) ≡ fin.remove (names_of entries) path
unfolding names_of
names_of-remove entries i path d at =
    ap fin.from_entries (map-remove entries i)
    ∙ from_entries-remove path_total path_antisymmetric (map entry_of entries) i path (entry_of no_entry) d
    (rw (length-map entries entry_of) at.inside) (ap (λ e. e.0) (get_or-map entries i at.inside) ∙ at.same_path)

pub AreDistinct-names_remove : (entries : List Entry) (i : ℕ) → AreDistinct path_cmp (map entry_of entries)
    → AreDistinct path_cmp (map entry_of (remove entries i))
AreDistinct-names_remove entries i d =
    rw (map-remove entries i) (AreDistinct-remove path_total path_antisymmetric (map entry_of entries) i d)

pub names_of-remove_none : (entries : List Entry) (path : List (List ℕ))
    → fin.find path_cmp path (map entry_of entries) ≡ None → names_of entries ≡ fin.remove (names_of entries) path
names_of-remove_none entries path none =
    sym (remove_none path_total path_antisymmetric (names_of entries) path (get-names_of entries path ∙ none))

-- ## Going over the entries

find_at : (path : List (List ℕ)) (entries : List Entry) (i : ℕ) → i < length entries
    → fin.find path_cmp path (map entry_of (drop i entries))
    ≡ cond (eq_by_cmp path_cmp path (components_of (entry_at entries i).path.items))
    (Some (node_of (entry_at entries i).node)) (fin.find path_cmp path (map entry_of (drop (suc i) entries)))
find_at path [] i h = absurd (omega arith)
find_at path (x ∷ xs) zero h = refl
find_at path (x ∷ xs) (suc i) h = find_at path xs i (omega arith)

pub find_here : (path : List (List ℕ)) (entries : List Entry) (i : ℕ) → i < length entries
    → pointwise (pointwise nat_eq) (components_of (entry_at entries i).path.items) path ≡ true
    → fin.find path_cmp path (map entry_of (drop i entries)) ≡ Some (node_of (entry_at entries i).node)
find_here path entries i h same = find_at path entries i h
    ∙ rw (sym (ties (components_of (entry_at entries i).path.items) path) ∙ same) refl

pub find_next : (path : List (List ℕ)) (entries : List Entry) (i : ℕ) → i < length entries
    → pointwise (pointwise nat_eq) (components_of (entry_at entries i).path.items) path ≡ false
    → fin.find path_cmp path (map entry_of (drop i entries))
    ≡ fin.find path_cmp path (map entry_of (drop (i + 1) entries))
find_next path entries i h other = find_at path entries i h
    ∙ rw (sym (ties (components_of (entry_at entries i).path.items) path) ∙ other) (rw add-one refl)

pub find_past : (path : List (List ℕ)) (entries : List Entry) (i : ℕ) → length entries ≤ i
    → fin.find path_cmp path (map entry_of (drop i entries)) ≡ None
find_past path [] zero h = refl
find_past path [] (suc i) h = refl
find_past path (x ∷ xs) zero h = absurd (omega arith)
find_past path (x ∷ xs) (suc i) h = find_past path xs i (omega arith)

pub same_path_of : (p q : List (List ℕ)) → pointwise (pointwise nat_eq) p q ≡ true → p ≡ q
same_path_of p q same = sym (tied path_total path_antisymmetric q p (sym (ties p q) ∙ same))

-- ## What paths name

pub node_at-root : (paths : PathMap) (path : List (List ℕ)) → node_at paths (take 0 path) ≡ Some Directory
node_at-root paths path = refl

pub node_at-some : (paths : PathMap) (path : List (List ℕ)) (count : ℕ) → 0 < count → count ≤ length path
    → node_at paths (take count path) ≡ fin.get paths (take count path)
node_at-some paths path zero h k = absurd (omega arith)
node_at-some paths [] (suc count) h k = absurd (omega arith)
node_at-some paths (x ∷ xs) (suc count) h k = refl

pub get-missing : (paths : PathMap) (path : List (List ℕ)) → node_at paths path ≡ None → fin.get paths path ≡ None
get-missing paths [] none = cc
get-missing paths (x ∷ xs) none = none

-- ## The walk

take_more : (path : List (List ℕ)) (k : ℕ) → k < length path → take k path ++ take 1 (drop k path) ≡ take (k + 1) path
take_more [] k h = absurd (omega arith)
take_more (x ∷ xs) zero h = refl
take_more (x ∷ xs) (suc k) h = ap (λ ys. x ∷ ys) (take_more xs k (omega arith)) ∙ rw (add-one, add-one) refl

drop_more_of : (path : List (List ℕ)) (k : ℕ) → drop 1 (drop k path) ≡ drop (k + 1) path
drop_more_of [] zero = refl
drop_more_of [] (suc k) = rw add-one refl
drop_more_of (x ∷ xs) zero = refl
drop_more_of (x ∷ xs) (suc k) = drop_more_of xs k ∙ rw (add-one, add-one) refl

-- what follows on the look at the next directory
abbrev on : PathMap → List (List ℕ) → List (List ℕ) → Option Node → Result (Unit {0}) Errno
on paths before rest o = passed o >>= (λ _. walked paths before rest)

walked_step : (paths : PathMap) (before rest : List (List ℕ)) → 1 < length rest
    → walked paths before rest ≡ on paths (before ++ take 1 rest) (drop 1 rest) (node_at paths (before ++ take 1 rest))
walked_step paths before [] h = absurd (omega arith)
walked_step paths before (x ∷ []) h = absurd (omega arith)
walked_step paths before (x ∷ y ∷ ys) h = refl

walked_at : (paths : PathMap) (path : List (List ℕ)) (k : ℕ) → k + 1 < length path
    → walked paths (take k path) (drop k path)
    ≡ on paths (take (k + 1) path) (drop (k + 1) path) (node_at paths (take (k + 1) path))
walked_at paths path k h =
    walked_step paths (take k path) (drop k path) (rw length-drop (omega arith))
    ∙ ap (λ before. on paths before (drop 1 (drop k path)) (node_at paths before)) (take_more path k (omega arith))
    ∙ ap (λ rest. on paths (take (k + 1) path) rest (node_at paths (take (k + 1) path))) (drop_more_of path k)

pub walked_missing : (paths : PathMap) (path : List (List ℕ)) (k : ℕ) → k + 1 < length path
    → node_at paths (take (k + 1) path) ≡ None → walked paths (take k path) (drop k path) ≡ Err ENOENT
walked_missing paths path k h none = walked_at paths path k h
    ∙ ap (on paths (take (k + 1) path) (drop (k + 1) path)) none

pub walked_file : (paths : PathMap) (path : List (List ℕ)) (k object : ℕ) → k + 1 < length path
    → node_at paths (take (k + 1) path) ≡ Some (FileNode object)
    → walked paths (take k path) (drop k path) ≡ Err ENOTDIR
walked_file paths path k object h file = walked_at paths path k h
    ∙ ap (on paths (take (k + 1) path) (drop (k + 1) path)) file

pub walked_directory : (paths : PathMap) (path : List (List ℕ)) (k : ℕ) → k + 1 < length path
    → node_at paths (take (k + 1) path) ≡ Some Directory
    → walked paths (take k path) (drop k path) ≡ walked paths (take (k + 1) path) (drop (k + 1) path)
walked_directory paths path k h directory = walked_at paths path k h
    ∙ ap (on paths (take (k + 1) path) (drop (k + 1) path)) directory

walked_last : (paths : PathMap) (before rest : List (List ℕ)) → length rest ≤ 1 → walked paths before rest ≡ Ok tt
walked_last paths before [] h = refl
walked_last paths before (x ∷ []) h = refl
walked_last paths before (x ∷ y ∷ ys) h = absurd (omega arith)

pub walked_end : (paths : PathMap) (path : List (List ℕ)) (k : ℕ) → length path ≤ k + 1
    → walked paths (take k path) (drop k path) ≡ Ok tt
walked_end paths path k h = walked_last paths (take k path) (drop k path) (rw length-drop (omega arith))

pub walked_none : (paths : PathMap) (path : List (List ℕ))
    → walked paths (take 0 path) (drop 0 path) ≡ walked paths [] path
walked_none paths path = refl

-- ## Counting

-- how many of these entries are names of a file
unfoldable pub links_in : ℕ → List Entry → ℕ
links_in node entries = count_by (λ (entry : List (List ℕ) × Node). is_file entry.1 node) (map entry_of entries)

-- whether one of them leads on from a directory
unfoldable pub leads_in : List (List ℕ) → List Entry → Bool
leads_in directory entries = list_any (λ (entry : List (List ℕ) × Node). is_inside directory entry.0)
    (map entry_of entries)

pub links_of-names_of : (node : ℕ) (entries : List Entry) → AreDistinct path_cmp (map entry_of entries)
    → links_of (names_of entries) node ≡ links_in node entries
unfolding names_of links_in
links_of-names_of node entries d = count_by-entries path_total path_antisymmetric (λ entry. is_file entry.1 node)
    (map entry_of entries) d

pub has_entries-names_of : (directory : List (List ℕ)) (entries : List Entry)
    → AreDistinct path_cmp (map entry_of entries)
    → has_entries (names_of entries) directory ≡ leads_in directory entries
unfolding names_of leads_in
has_entries-names_of directory entries d =
    list_any-entries path_total path_antisymmetric (λ entry. is_inside directory entry.0) (map entry_of entries) d

pub links_in-le : (node : ℕ) (entries : List Entry) → links_in node entries ≤ length entries
unfolding links_in
links_in-le node entries = omega (
  arith,
  count_by-le-length (λ (entry : List (List ℕ) × Node). is_file entry.1 node) (map entry_of entries),
  length-map entries entry_of,
)

links_in-cons : (node : ℕ) (x : Entry) (xs : List Entry)
    → links_in node (x ∷ xs) ≡ cond (is_file (node_of x.node) node) 1 0 + links_in node xs
unfolding links_in
links_in-cons node x xs = sum_by-cons (λ (entry : List (List ℕ) × Node). cond (is_file entry.1 node) 1 0) (entry_of x)
    (map entry_of xs)

links_in-drop : (node : ℕ) (entries : List Entry) (i : ℕ) → i < length entries
    → links_in node (drop i entries) ≡ cond (is_file (node_of (entry_at entries i).node) node) 1 0 + links_in node
    (drop (suc i) entries)
links_in-drop node [] i h = absurd (omega arith)
links_in-drop node (x ∷ xs) zero h = links_in-cons node x xs
links_in-drop node (x ∷ xs) (suc i) h = links_in-drop node xs i (omega arith)

pub links_here : (node : ℕ) (entries : List Entry) (i : ℕ) (e : Entry) → i < length entries → e ≡ get_or entries i e
    → is_file (node_of e.node) node ≡ true → links_in node (drop i entries) ≡ 1 + links_in node (drop (i + 1) entries)
links_here node entries i e h is file = links_in-drop node entries i h
    ∙ rw (item_is entries i e no_entry h is, file, add-one) refl

pub links_next : (node : ℕ) (entries : List Entry) (i : ℕ) (e : Entry) → i < length entries → e ≡ get_or entries i e
    → is_file (node_of e.node) node ≡ false → links_in node (drop i entries) ≡ links_in node (drop (i + 1) entries)
links_next node entries i e h is file = links_in-drop node entries i h
    ∙ rw (item_is entries i e no_entry h is, file, add-one) (omega arith)

pub links_past : (node : ℕ) (entries : List Entry) (i : ℕ) → length entries ≤ i → links_in node (drop i entries) ≡ 0
links_past node [] zero h = omega (arith, links_in-le node [])
links_past node [] (suc i) h = omega (arith, links_in-le node [])
links_past node (x ∷ xs) zero h = absurd (omega arith)
links_past node (x ∷ xs) (suc i) h = links_past node xs i (omega arith)

leads_in-drop : (directory : List (List ℕ)) (entries : List Entry) (i : ℕ) → i < length entries
    → leads_in directory (drop i entries) ≡ (is_inside directory (components_of (entry_at entries i).path.items)
    || leads_in directory (drop (suc i) entries))
unfolding leads_in
leads_in-drop directory [] i h = absurd (omega arith)
leads_in-drop directory (x ∷ xs) zero h = refl
leads_in-drop directory (x ∷ xs) (suc i) h = leads_in-drop directory xs i (omega arith)

pub leads_here : (directory : List (List ℕ)) (entries : List Entry) (i : ℕ) (e : Entry) → i < length entries
    → e ≡ get_or entries i e → is_inside directory (components_of e.path.items) ≡ true
    → leads_in directory (drop i entries) ≡ true
leads_here directory entries i e h is inside = leads_in-drop directory entries i h
    ∙ rw (item_is entries i e no_entry h is, inside) refl

pub leads_next : (directory : List (List ℕ)) (entries : List Entry) (i : ℕ) (e : Entry) → i < length entries
    → e ≡ get_or entries i e → is_inside directory (components_of e.path.items) ≡ false
    → leads_in directory (drop i entries) ≡ leads_in directory (drop (i + 1) entries)
leads_next directory entries i e h is inside = leads_in-drop directory entries i h
    ∙ rw (item_is entries i e no_entry h is, inside, add-one) refl

pub leads_past : (directory : List (List ℕ)) (entries : List Entry) (i : ℕ) → length entries ≤ i
    → leads_in directory (drop i entries) ≡ false
unfolding leads_in
leads_past directory [] zero h = refl
leads_past directory [] (suc i) h = refl
leads_past directory (x ∷ xs) zero h = absurd (omega arith)
leads_past directory (x ∷ xs) (suc i) h = leads_past directory xs i (omega arith)

-- ## A name in the place of another one

pub missing-removed : (paths : PathMap) (path : List (List ℕ))
    → fin.get (fin.remove paths path) path ≡ None
missing-removed paths path =
    get-remove path_total paths path path ∙ rw ((eq_by_cmp_equiv path_total).refl path) refl

-- one name less leaves room for one, and so do two
pub room-removed : (paths : PathMap) (old new : List (List ℕ)) (node : Node)
    → fin.len paths ≤ limit.NAMES → fin.get paths old ≡ Some node
    → fin.len (fin.remove (fin.remove paths old) new) < limit.NAMES
room-removed paths old new node few there =
    by_test (fin.contains_key left new) (len-remove path_total left new)
  where
    left : PathMap
    left = fin.remove paths old

    some : fin.contains_key paths old ≡ true
    some = ap (λ (o : Option Node). is_some o) there

    less : fin.len left ≡ fin.len paths - 1
    less =
        len-remove path_total paths old
        ∙ ap (λ (b : Bool). cond b (fin.len paths - 1) (fin.len paths)) some

    by_test : (b : Bool)
        → fin.len (fin.remove left new) ≡ cond b (fin.len left - 1) (fin.len left)
        → fin.len (fin.remove left new) < limit.NAMES
    by_test true is = omega (arith, is, less, few)
    by_test false is = omega (arith, is, less, few)

-- what is put where a name was taken away stands in its place
pub insert-removed : (paths : PathMap) (path : List (List ℕ)) (node : Node)
    → fin.insert (fin.remove paths path) path node ≡ fin.insert paths path node
insert-removed paths path node =
    same_map path_total path_antisymmetric _ _ (λ q.
    get-insert path_total (fin.remove paths path) path node q
    ∙ ap (cond (eq_by_cmp path_cmp q path) (Some node)) (get-remove path_total paths path q)
    ∙ covered (eq_by_cmp path_cmp q path) (fin.get paths q)
    ∙ sym (get-insert path_total paths path node q))
  where
    covered : (b : Bool) (o : Option Node)
        → cond b (Some node) (cond b None o) ≡ cond b (Some node) o
    covered true o = refl
    covered false o = refl

-- the components of a path that leads on are its own
resolved_is : (paths : PathMap) (path : List ℕ) (components : List (List ℕ))
    → resolved paths path ≡ Ok components → components ≡ components_of path
unfolding path_form
resolved_is paths path components is = grind (arith, is)

-- a renaming is that of the files that were found
pub renamed-files : (paths : PathMap) (old_path new_path : List ℕ)
    → renamed paths old_path new_path
    ≡ (renaming paths old_path new_path >>= (λ files. Ok
    (replacing paths (components_of old_path) (components_of new_path) files.0 files.1)))
unfolding renaming renamed
renamed-files paths old_path new_path =
    grind (arith, resolved_is paths old_path, resolved_is paths new_path)

-- another file, or none, loses the new name
pub replacing-moved : (paths : PathMap) (old new : List (List ℕ)) (object : ℕ) (replaced : Option ℕ)
    → option_eq nat_eq replaced (Some object) ≡ false
    → replacing paths old new object replaced ≡ (moved paths old new object, replaced)
replacing-moved paths old new object None apart = refl
replacing-moved paths old new object (Some other) apart = rw apart refl

pub ruleset renames = (renamed-files, replacing-moved)

pub ruleset moving = (missing-removed, room-removed, insert-removed)

pub ruleset counting = (links_of-names_of, links_in-le, links_here, links_next, links_past)

pub ruleset leading = (has_entries-names_of, leads_here, leads_next, leads_past)

pub ruleset entries = (
  get-names_of,
  len-names_of,
  names_of-none,
  names_of-push,
  AreDistinct-names_push,
  names_of-remove,
  AreDistinct-names_remove,
  names_of-remove_none,
)

pub ruleset finding = (find_here, find_next, find_past, same_path_of)

pub ruleset nodes = (node_at-root, node_at-some, get-missing)

pub ruleset walking = (walked_missing, walked_file, walked_directory, walked_end, walked_none)
