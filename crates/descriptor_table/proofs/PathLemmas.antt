-- What a table shows of a state: names, and what refers to an object.
use Rattle.std.proofs.Common.{◌≡◌, ◌≢◌, ℕ, zero, suc, ◌-◌, ◌<◌, ◌==◌, ◌||◌, List, [], ◌∷◌, ◌++◌, length, map, Option}
use Rattle.std.proofs.Common.{Some, None, is_some, unwrap_or, Result, Ok, Err, Bool, true, false, cond, not, count_by}
use Rattle.std.proofs.Common.{refl, sym, ap, ◌∙◌, inl, inr, arith}
use Rattle.std.proofs.lemmas.Bool.{and_from, and_parts, cases_eq, eq-eqb, eqb-true, false≢true, or_right}
use Rattle.std.proofs.lemmas.List.{length-map}
use Rattle.std.proofs.lemmas.Option.{none-some, same_Some}
use Rattle.std.specs.Cmp.{both_ways, nat_cmp_total}
use Rattle.std.specs.FinMap as fin
use Rattle.std.specs.FinMap.{FinMap, IsAntisymmetric, get-empty, len-entries, len-remove, nat_cmp-IsAntisymmetric}
use Rattle.std.specs.FinMap.{slice_cmp-IsAntisymmetric}
use Rattle.std.specs.List.{list_any}
use Rattle.std.specs.Option.{option_map}
use Rattle.std.specs.Ordering.{nat_cmp}
use Rattle.std.specs.Prelude.{slice_index_or}
use Rattle.sequential_object.specs.Descriptors as posix
use Rattle.sequential_object.specs.Descriptors.{is_file, is_of}
use Rattle.sequential_object.specs.Names.{has_entries, is_inside, links_of}
use Rattle.sequential_object.specs.Object.{State, Content, Node, FileNode, Directory, any_below, path_cmp, content_of}
use Rattle.sequential_object.specs.Object as object
use Rattle.sequential_object.specs.Paths.{node_at, passed, path_form, resolved, walked}
use Rattle.sequential_object.specs.Refusals.{◌>>=◌}
use Rattle.posix_terms.specs.declared.errno.Errno.{Errno}
use Rattle.posix_terms.specs.Ends.{is_first}
use Rattle.file_descriptions.specs.Descriptions.{AreSound, has_first_end, has_second_end}
use Rattle.file_descriptions.specs.declared.description.Description.{Description}
use Rattle.descriptor_table.proofs.MapLemmas.{get-remove_other, no_keys, paths_total, some_less}
use Rattle.descriptor_table.proofs.EntryLemmas.{any_of, any_second, counted_none, entries-mapped, standing_in}
use Rattle.descriptor_table.proofs.SoundLemmas.{none_past, not_described, open-cons}
use Rattle.posix_terms.specs.declared.object.End.TheVariants as part
use Rattle.descriptor_table.specs.Shows as shown_by
use Rattle.descriptor_table.specs.Shows.{Shows, birth_at, shown, shown_node}
use Rattle.descriptor_table.specs.Table.{TableState, IsSound, is_closed, is_used}

pub paths_apart : IsAntisymmetric path_cmp
paths_apart = slice_cmp-IsAntisymmetric (slice_cmp-IsAntisymmetric nat_cmp-IsAntisymmetric)

-- ## Names

pub node_shown : (t : TableState) (s : State) (components : List (List ℕ)) → Shows t s
    → node_at s.paths components ≡ option_map (shown_node t) (node_at t.paths components)
node_shown t s [] shows = refl
node_shown t s (name ∷ names) shows = shows.paths (name ∷ names)

passed_shown : (t : TableState) (node : Option Node) → passed (option_map (shown_node t) node) ≡ passed node
passed_shown t None = refl
passed_shown t (Some (FileNode object)) = refl
passed_shown t (Some Directory) = refl

walked_shown : (t : TableState) (s : State) (before components : List (List ℕ)) → Shows t s
    → walked s.paths before components ≡ walked t.paths before components
walked_shown t s before [] shows = refl
walked_shown t s before (name ∷ []) shows = refl
walked_shown t s before (name ∷ next ∷ names) shows =
    ap (λ (r : Result (Unit {0}) Errno). r >>= (λ _. walked s.paths (before ++ name ∷ []) (next ∷ names)))
    (ap passed (node_shown t s (before ++ name ∷ []) shows)
    ∙ passed_shown t (node_at t.paths (before ++ name ∷ [])))
    ∙ ap (λ (r : Result (Unit {0}) Errno). passed (node_at t.paths (before ++ name ∷ [])) >>= (λ _. r))
    (walked_shown t s (before ++ name ∷ []) (next ∷ names) shows)

resolved_form : (t : TableState) (s : State) (form : Result (List (List ℕ)) Errno) → Shows t s
    → (form >>= (λ components. walked s.paths [] components >>= (λ _. Ok components)))
    ≡ (form >>= (λ components. walked t.paths [] components >>= (λ _. Ok components)))
resolved_form t s (Ok components) shows = ap (λ (r : Result (Unit {0}) Errno). r >>= (λ _. Ok components))
    (walked_shown t s [] components shows)
resolved_form t s (Err e) shows = refl

pub resolved_shown : (t : TableState) (s : State) (path : List ℕ) → Shows t s
    → resolved s.paths path ≡ resolved t.paths path
resolved_shown t s path shows = resolved_form t s (path_form path) shows

pub entries_shown : (t : TableState) (s : State) → Shows t s
    → fin.entries s.paths ≡ map (λ (e : List (List ℕ) × Node). (e.0, shown_node t e.1)) (fin.entries t.paths)
entries_shown t s shows = entries-mapped path_cmp (shown_node t) paths_total paths_apart t.paths s.paths shows.paths

pub names_shown : (t : TableState) (s : State) → Shows t s → fin.len s.paths ≡ fin.len t.paths
names_shown t s shows = len-entries s.paths ∙ ap length (entries_shown t s shows)
    ∙ length-map (fin.entries t.paths) (λ (e : List (List ℕ) × Node). (e.0, shown_node t e.1))
    ∙ sym (len-entries t.paths)

inside_shown : (t : TableState) (directory : List (List ℕ)) (es : List (List (List ℕ) × Node))
    → list_any (λ (e : List (List ℕ) × Node). is_inside directory e.0)
    (map (λ (e : List (List ℕ) × Node). (e.0, shown_node t e.1)) es)
    ≡ list_any (λ (e : List (List ℕ) × Node). is_inside directory e.0) es
inside_shown t directory [] = refl
inside_shown t directory (e ∷ es) = ap (λ (b : Bool). is_inside directory e.0 || b) (inside_shown t directory es)

pub has_entries_shown : (t : TableState) (s : State) (directory : List (List ℕ)) → Shows t s
    → has_entries s.paths directory ≡ has_entries t.paths directory
has_entries_shown t s directory shows = ap (list_any (λ (e : List (List ℕ) × Node). is_inside directory e.0))
    (entries_shown t s shows) ∙ inside_shown t directory (fin.entries t.paths)

-- ## Births of objects

pub birth_is : (t : TableState) (node : ℕ) → is_used t node ≡ true
    → slice_index_or t.objects node None ≡ Some (birth_at t node)
birth_is t node used = by_slot (slice_index_or t.objects node None) refl
  where
    by_slot : (o : Option ℕ) → slice_index_or t.objects node None ≡ o
        → slice_index_or t.objects node None ≡ Some (unwrap_or (slice_index_or t.objects node None) t.made_objects)
    by_slot None is = absurd (false≢true (sym (ap (λ (o : Option ℕ). is_some o) is) ∙ used))
    by_slot (Some birth) is = is ∙ ap (λ (o : Option ℕ). Some (unwrap_or o t.made_objects)) (sym is)

pub one_object : (t : TableState) (node other : ℕ) → IsSound t → is_used t node ≡ true → is_used t other ≡ true
    → birth_at t node ≡ birth_at t other → node ≡ other
one_object t node other sound used its same = sound.distinct node other (birth_at t other) (birth_is t node used
    ∙ ap (λ (b : ℕ). Some b) same) (birth_is t other its)

pub birth_below : (t : TableState) (node : ℕ) → IsSound t → is_used t node ≡ true → birth_at t node < t.made_objects
birth_below t node sound used = sound.born node (birth_at t node) (birth_is t node used)

-- what a path names is a file
pub file_at_name : (t : TableState) (s : State) (components : List (List ℕ)) (node : ℕ) → Shows t s
    → node_at t.paths components ≡ Some (FileNode node) → shown_by.is_of part.Only (content_of s (birth_at t node))
    ≡ true
file_at_name t s [] node shows at = cc
file_at_name t s (name ∷ names) node shows at = shows.files (name ∷ names) node at

-- objects have one birth exactly when they have one number
pub births_alike : (t : TableState) (n node : ℕ) → IsSound t → is_used t n ≡ true → is_used t node ≡ true
    → (birth_at t n == birth_at t node) ≡ (n == node)
births_alike t n node sound its used =
    both_ways (birth_at t n == birth_at t node) (n == node)
    (λ x. eq-eqb n node (one_object t n node sound its used (eqb-true (birth_at t n) (birth_at t node) x)))
    (λ y. eq-eqb (birth_at t n) (birth_at t node) (ap (birth_at t) (eqb-true n node y)))

-- ## What refers to an object

pub any_of_first : (n : ℕ) (p : ℕ → Bool) → any_below n p ≡ true → (m : ℕ) × (m < n) × (p m ≡ true)
any_of_first zero p any = absurd (false≢true any)
any_of_first (suc n) p any = by_test (p n) refl (λ below. any_of_first n p below)
  where
    or_left : (a : Bool) → (a || false) ≡ true → a ≡ true
    or_left true h = refl
    or_left false h = absurd (false≢true h)

    by_test : (b : Bool) → p n ≡ b → (any_below n p ≡ true → (m : ℕ) × (m < n) × (p m ≡ true)) → (m : ℕ) × (m < suc n)
        × (p m ≡ true)
    by_test true h earlier = (n, omega arith, h)
    by_test false h earlier =
        let at = earlier (or_left (any_below n p) (ap (λ (b : Bool). any_below n p || b) (sym h) ∙ any)) in
        let below : at.0 < n = at.1 in
        (at.0, omega arith, at.2)

pub first_of_any : (n : ℕ) (p : ℕ → Bool) (m : ℕ) → m < n → p m ≡ true → any_below n p ≡ true
first_of_any zero p m below holds = absurd (omega arith)
first_of_any (suc n) p m below holds =
    elim (cases_eq m n) [
      | inl e ↦ or_right (any_below n p) (p n) (ap p (sym e) ∙ holds)
      | inr apart ↦ ap (λ (b : Bool). b || p n) (first_of_any n p m (omega arith) holds)
    ]

is_of_some : (o : Option object.Description) (n : ℕ) → is_of o n ≡ true → (e : object.Description) × (o ≡ Some e)
    × (e.object ≡ n)
is_of_some None n h = absurd (false≢true h)
is_of_some (Some e) n h = (e, refl, eqb-true e.object n h)

-- a description of an object, in the table
pub data HasDescription (t : TableState) (node : ℕ) : Type 0 where
  Of : (key : ℕ) (d : Description) → (got : fin.get t.descriptions.by_key key ≡ Some d) → (same : d.node ≡ node)
      → HasDescription t node

described_object : (t : TableState) (s : State) (node : ℕ) → IsSound t → Shows t s → is_used t node ≡ true
    → posix.has_description s (birth_at t node) ≡ true → HasDescription t node
described_object t s node sound shows used any =
    let at = any_of_first s.next_description (λ key. is_of (fin.get s.descriptions key) (birth_at t node)) any in
    let its = is_of_some (fin.get s.descriptions at.0) (birth_at t node) at.2 in
    let own = shows.described at.0 (ap (λ (o : Option object.Description). is_some o) its.1) in
    let found : fin.get s.descriptions own.1.birth ≡ Some its.0 = ap (fin.get s.descriptions) own.3 ∙ its.1 in
    let same : Some (shown t own.1) ≡ Some its.0 = sym (shows.descriptions own.0 own.1 own.2) ∙ found in
    let object : birth_at t own.1.node ≡ its.0.object =
    ap (λ (d : object.Description). d.object) (same_Some _ _ same) in
    Of own.0 own.1 own.2 (one_object t own.1.node node sound (sound.described_objects own.0 own.1 own.2) used
    (object ∙ its.2))

object_described : (t : TableState) (s : State) (node : ℕ) → AreSound t.descriptions → Shows t s → HasDescription t node
    → posix.has_description s (birth_at t node) ≡ true
object_described t s node all shows (Of key d got same) =
    let below : d.birth < s.next_description = rw shows.next_description (all.born key d got) in
    first_of_any s.next_description (λ key. is_of (fin.get s.descriptions key) (birth_at t node)) d.birth below
    (ap (λ (o : Option object.Description). is_of o (birth_at t node)) (shows.descriptions key d got)
    ∙ eq-eqb (birth_at t d.node) (birth_at t node) (ap (birth_at t) same))

-- where no description is of an object it is closed
not_of_first : (t : TableState) (node : ℕ) → (HasDescription t node → ⊥) → is_closed t node ≡ true
not_of_first t node never =
    and_from (count_by (has_first_end node) (fin.values t.descriptions.by_key) == 0)
    (count_by (has_second_end node) (fin.values t.descriptions.by_key) == 0)
    (none (has_first_end node) (λ d h. (and_parts (d.node == node) (is_first d.«end») h).0))
    (none (has_second_end node) (λ d h. (and_parts (d.node == node) (not (is_first d.«end»)) h).0))
  where
    none : (q : Description → Bool) → ((d : Description) → q d ≡ true → (d.node == node) ≡ true)
        → (count_by q (fin.values t.descriptions.by_key) == 0) ≡ true
    none q each = counted_none q (fin.values t.descriptions.by_key)
        ∙ by_any (list_any q (fin.values t.descriptions.by_key)) refl
      where
        by_any : (b : Bool) → list_any q (fin.values t.descriptions.by_key) ≡ b
            → not (list_any q (fin.values t.descriptions.by_key)) ≡ true
        by_any false h = ap not h
        by_any true h =
            let at = standing_in nat_cmp_total (λ (e : ℕ × Description). q e.1) t.descriptions.by_key
            (sym (any_second q (fin.entries t.descriptions.by_key)) ∙ h) in
            absurd (never (Of at.0 at.1 at.2 (eqb-true at.1.node node (each at.1 at.3))))

-- an object is closed exactly when the state has no description of it
pub closed_shown : (t : TableState) (s : State) (node : ℕ) → IsSound t → AreSound t.descriptions → Shows t s
    → is_used t node ≡ true → is_closed t node ≡ not (posix.has_description s (birth_at t node))
closed_shown t s node sound all shows used = by_test (posix.has_description s (birth_at t node)) refl (is_closed t node)
    refl
  where
    shut : is_closed t node ≡ true → HasDescription t node → ⊥
    shut closed (Of key d got same) = not_described t node closed key d got same

    by_test : (b : Bool) → posix.has_description s (birth_at t node) ≡ b → (c : Bool) → is_closed t node ≡ c
        → is_closed t node ≡ not (posix.has_description s (birth_at t node))
    by_test true h true closed = absurd (shut closed (described_object t s node sound shows used h))
    by_test true h false closed = closed ∙ ap not (sym h)
    by_test false h c closed = not_of_first t node (λ has. false≢true (sym h ∙ object_described t s node all shows has))
        ∙ ap not (sym h)

file_shown : (t : TableState) (node : Node) (n : ℕ) → shown_node t node ≡ FileNode n → (m : ℕ) × (node ≡ FileNode m)
    × (birth_at t m ≡ n)
file_shown t (FileNode m) n is = (m, refl, cc)
file_shown t Directory n is = cc

is_file_of : (node : Node) (n : ℕ) → is_file node n ≡ true → node ≡ FileNode n
is_file_of (FileNode m) n h = ap (λ (k : ℕ). FileNode k) (eqb-true m n h)
is_file_of Directory n h = absurd (false≢true h)

shown_some : (t : TableState) (o : Option Node) (n : ℕ) → option_map (shown_node t) o ≡ Some (FileNode n) → (m : ℕ)
    × (o ≡ Some (FileNode m)) × (birth_at t m ≡ n)
shown_some t None n is = cc
shown_some t (Some node) n is =
    let its = file_shown t node n (same_Some _ _ is) in
    (its.0, ap (λ (x : Node). Some x) its.1, its.2)

-- a file has a name exactly when the state has one of it
pub linked_shown : (t : TableState) (s : State) (node : ℕ) → IsSound t → Shows t s → is_used t node ≡ true
    → (links_of t.paths node == 0) ≡ not (posix.has_path s (birth_at t node))
linked_shown t s node sound shows used =
    counted_none (λ (e : List (List ℕ) × Node). is_file e.1 node) (fin.entries t.paths)
    ∙ ap not
    (both_ways (list_any (λ (e : List (List ℕ) × Node). is_file e.1 node) (fin.entries t.paths))
    (posix.has_path s (birth_at t node)) to_state to_table)
  where
    to_state : list_any (λ (e : List (List ℕ) × Node). is_file e.1 node) (fin.entries t.paths) ≡ true
        → posix.has_path s (birth_at t node) ≡ true
    to_state any =
        let at = standing_in paths_total (λ (e : List (List ℕ) × Node). is_file e.1 node) t.paths any in
        let its : fin.get t.paths at.0 ≡ Some (FileNode node) = at.2
        ∙ ap (λ (x : Node). Some x) (is_file_of at.1 node at.3) in
        any_of path_cmp (λ x. is_file x (birth_at t node)) s.paths at.0 (FileNode (birth_at t node))
        (shows.paths at.0 ∙ ap (option_map (shown_node t)) its) (eq-eqb (birth_at t node) (birth_at t node) refl)

    to_table : posix.has_path s (birth_at t node) ≡ true
        → list_any (λ (e : List (List ℕ) × Node). is_file e.1 node) (fin.entries t.paths) ≡ true
    to_table any =
        let at = standing_in paths_total (λ (e : List (List ℕ) × Node). is_file e.1 (birth_at t node)) s.paths any in
        let its = shown_some t (fin.get t.paths at.0) (birth_at t node) (sym (shows.paths at.0) ∙ at.2
        ∙ ap (λ (x : Node). Some x) (is_file_of at.1 (birth_at t node) at.3)) in
        let same : its.0 ≡ node = one_object t its.0 node sound (sound.named_objects at.0 its.0 its.1) used its.2 in
        any_of path_cmp (λ x. is_file x node) t.paths at.0 (FileNode its.0) its.1 (eq-eqb its.0 node same)

-- ## How many objects there are

abbrev pub taken : List (Option ℕ) → ℕ
taken slots = count_by (λ (o : Option ℕ). is_some o) slots

pub record Holds (m : FinMap nat_cmp Content) (slots : List (Option ℕ)) : Type 0 where
  pub there : (node birth : ℕ) → slice_index_or slots node None ≡ Some birth → is_some (fin.get m birth) ≡ true
  pub numbered : (birth : ℕ) → is_some (fin.get m birth) ≡ true → (node : ℕ)
      × (slice_index_or slots node None ≡ Some birth)
  pub distinct : (node other birth : ℕ) → slice_index_or slots node None ≡ Some birth
      → slice_index_or slots other None ≡ Some birth → node ≡ other

pub objects_counted : (slots : List (Option ℕ)) (m : FinMap nat_cmp Content) → Holds m slots → fin.len m ≡ taken slots
objects_counted [] m holds =
    no_keys m (λ birth is. let at = holds.numbered birth is in
    none-some _ (sym (none_past [] at.0 (omega arith)) ∙ at.1))
objects_counted (None ∷ os) m holds =
    let rest = objects_counted os m
    (record {
      there = λ node birth is. holds.there (suc node) birth is;
      numbered = λ birth is. further birth (holds.numbered birth is);
      distinct = λ node other birth is its. let same = holds.distinct (suc node) (suc other) birth is its in
          omega (arith, same);
    }) in
    omega (arith, rest, open-cons None os)
  where
    further : (birth : ℕ) → (node : ℕ) × (slice_index_or (None ∷ os) node None ≡ Some birth) → (node : ℕ)
        × (slice_index_or os node None ≡ Some birth)
    further birth (zero, is) = absurd (none-some _ is)
    further birth (suc node, is) = (node, is)
objects_counted (Some b ∷ os) m holds =
    let rest = objects_counted os (fin.remove m b) left in
    let less : fin.len (fin.remove m b) ≡ fin.len m - 1 = len-remove nat_cmp_total m b
    ∙ ap (λ (x : Bool). cond x (fin.len m - 1) (fin.len m)) (holds.there 0 b refl) in
    omega (arith, rest, less, some, open-cons (Some b) os)
  where
    some : 0 < fin.len m
    some = by_len (fin.len m) refl
      where
        by_len : (n : ℕ) → fin.len m ≡ n → 0 < fin.len m
        by_len zero e = absurd (false≢true
            (sym (ap (λ (k : FinMap nat_cmp Content). is_some (fin.get k b)) (fin.empty_of_len m e)
            ∙ ap (λ (o : Option Content). is_some o) (get-empty nat_cmp b)) ∙ holds.there 0 b refl))
        by_len (suc n) e = omega (arith, e)

    apart : (node birth : ℕ) → slice_index_or os node None ≡ Some birth → birth ≢ b
    apart node birth is same
        = let at : 0 ≡ suc node = holds.distinct 0 (suc node) birth (ap (λ (x : ℕ). Some x) (sym same)) is in absurd
        (omega (arith, at))

    there : (node birth : ℕ) → slice_index_or os node None ≡ Some birth
        → is_some (fin.get (fin.remove m b) birth) ≡ true
    there node birth is = ap (λ (o : Option Content). is_some o) (get-remove_other m b birth (apart node birth is))
        ∙ holds.there (suc node) birth is

    further : (birth : ℕ) → is_some (fin.get (fin.remove m b) birth) ≡ true → (node : ℕ)
        × (slice_index_or (Some b ∷ os) node None ≡ Some birth) → (node : ℕ)
        × (slice_index_or os node None ≡ Some birth)
    further birth is (zero, at) = absurd ((some_less m b birth is).0 (sym (same_Some _ _ at)))
    further birth is (suc node, at) = (node, at)

    left : Holds (fin.remove m b) os
    left = record {
      there = there;
      numbered = λ birth is. further birth is (holds.numbered birth (some_less m b birth is).1);
      distinct = λ node other birth is its. let same = holds.distinct (suc node) (suc other) birth is its in
          omega (arith, same);
    }

pub holds_of : (t : TableState) (s : State) → IsSound t → Shows t s → Holds s.objects t.objects
holds_of t s sound shows = record { there = shows.objects; numbered = shows.numbered; distinct = sound.distinct }
