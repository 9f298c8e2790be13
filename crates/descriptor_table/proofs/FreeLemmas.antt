-- Numbers that are free, numbers that a descriptor may have, and paths that name nothing.
use Rattle.std.proofs.Common.{◌≡◌, ℕ, zero, suc, ◌+◌, ◌-◌, ◌<◌, ◌≤◌, ◌==◌, List, [], ◌∷◌, length, Option, Some, None}
use Rattle.std.proofs.Common.{is_some, Result, Ok, Bool, true, false, refl, sym, ap, ◌∙◌, subst, arith, if◌then◌else◌}
use Rattle.std.proofs.lemmas.Bool.{true≢false}
use Rattle.std.proofs.lemmas.Bool.Decides.{nat_tests}
use Rattle.std.proofs.lemmas.Option.{none-some, same_Some}
use Rattle.std.specs.FinMap as fin
use Rattle.std.specs.List.{list_any}
use Rattle.std.specs.Prelude.{IfOk, nat_le, nat_lt, slice_index_or}
use Rattle.sequential_object.specs.Names.{PathMap}
use Rattle.sequential_object.specs.Object.{Node}
use Rattle.sequential_object.specs.Paths.{components_of, has_trailing_slash, is_dots, node_at, path_form, resolved}
use Rattle.sequential_object.specs.Paths.{walked}
use Rattle.sequential_object.specs.Refusals.{refuse_if}
use Rattle.posix_terms.specs.declared.errno.Errno.{Errno}
use Rattle.posix_terms.specs.declared.errno.Errno.TheVariants.{EINVAL, ENAMETOOLONG, ENOENT}
use Rattle.posix_terms.specs.declared.limits.TheConstants.Limits as limit
use Rattle.descriptor_table.proofs.Binding.{bound}
use Rattle.descriptor_table.specs.Changes.{IsFreeNumber, IsFreePath, IsNextObject}
use Rattle.descriptor_table.specs.Table.{TableState, free_object, lowest_free, lowest_from}

-- ## The lowest number

-- the lowest of some numbers is one of them
pub lowest_below : {X : Type 0} (slots : List (Option X)) (left from n : ℕ) → lowest_from slots left from ≡ Some n
    → n < from + left
unfolding lowest_from
lowest_below slots zero from n is = cc
lowest_below slots (suc left) from n is = by_test (is_some (slice_index_or slots from None)) refl
    (λ later. lowest_below slots left (from + 1) n later)
  where
    by_test : (b : Bool) → is_some (slice_index_or slots from None) ≡ b
        → (lowest_from slots left (from + 1) ≡ Some n → n < from + 1 + left) → n < from + suc left
    by_test true taken later =
        let h : n < from + 1 + left = later
        (sym (ap (λ (b : Bool). if b then lowest_from slots left (from + 1) else Some from) taken) ∙ is) in
        omega arith
    by_test false free later =
        let h : Some from ≡ Some n = sym
        (ap (λ (b : Bool). if b then lowest_from slots left (from + 1) else Some from) free) ∙ is in
        let same : from ≡ n = cc in
        omega arith

pub lowest_above : {X : Type 0} (slots : List (Option X)) (left from n : ℕ) → lowest_from slots left from ≡ Some n
    → from ≤ n
unfolding lowest_from
lowest_above slots zero from n is = cc
lowest_above slots (suc left) from n is = by_test (is_some (slice_index_or slots from None)) refl
    (λ later. lowest_above slots left (from + 1) n later)
  where
    by_test : (b : Bool) → is_some (slice_index_or slots from None) ≡ b
        → (lowest_from slots left (from + 1) ≡ Some n → from + 1 ≤ n) → from ≤ n
    by_test true taken later =
        let h : from + 1 ≤ n = later (sym
        (ap (λ (b : Bool). if b then lowest_from slots left (from + 1) else Some from) taken) ∙ is) in
        omega arith
    by_test false free later =
        let h : Some from ≡ Some n = sym
        (ap (λ (b : Bool). if b then lowest_from slots left (from + 1) else Some from) free) ∙ is in
        let same : from ≡ n = cc in
        omega arith

pub lowest_none : (slots : List (Option ℕ)) (left from n : ℕ) → lowest_from slots left from ≡ Some n
    → slice_index_or slots n None ≡ None
unfolding lowest_from
lowest_none slots zero from n is = cc
lowest_none slots (suc left) from n is =
    by_slot (slice_index_or slots from None) refl (λ later. lowest_none slots left (from + 1) n later)
  where
    by_slot : (o : Option ℕ) → slice_index_or slots from None ≡ o
        → (lowest_from slots left (from + 1) ≡ Some n → slice_index_or slots n None ≡ None)
        → slice_index_or slots n None ≡ None
    by_slot (Some x) taken later =
        later (sym (ap (λ (o : Option ℕ). if is_some o then lowest_from slots left (from + 1) else Some from) taken)
        ∙ is)
    by_slot None free later =
        let same : from ≡ n = same_Some _ _
        (sym (ap (λ (o : Option ℕ). if is_some o then lowest_from slots left (from + 1) else Some from) free) ∙ is) in
        ap (λ (k : ℕ). slice_index_or slots k None) (sym same) ∙ free

pub free_number : (t : TableState) (from n : ℕ) → from ≤ 32 → lowest_free t from ≡ Some n → IsFreeNumber t n
free_number t from n low is =
    let below : n < from + (32 - from) = lowest_below t.descriptors (32 - from) from n is in
    (omega arith, lowest_none t.descriptors (32 - from) from n is)

pub next_object : (t : TableState) (node : ℕ) → free_object t ≡ Some node → IsNextObject t node
next_object t node is =
    let below : node < 0 + 48 = lowest_below t.objects 48 0 node is in
    (omega arith, lowest_none t.objects 48 0 node is, is)

-- ## Paths

pub not_refused : (b : Bool) (e : Errno) (u : Unit {0}) → refuse_if b e ≡ Ok u → b ≡ false
not_refused true e u is = cc
not_refused false e u is = refl

short_path : (length_is : ℕ) → nat_lt limit.PATH_BYTES length_is ≡ false → length_is ≤ limit.PATH_BYTES
short_path n h = grind (arith, nat_tests)

-- the components of a path that leads on are its own, and it is not too long
abbrev Leads : List ℕ → Result (List (List ℕ)) Errno → Type 0
Leads path r = IfOk r (λ components. (components ≡ components_of path) × (length path ≤ limit.PATH_BYTES))

form_leads : (path : List ℕ) → Leads path (path_form path)
unfolding path_form
form_leads path =
    bound (Leads path) (λ e. tt) (refuse_if (length path == 0) ENOENT) _ (λ _ _.
    bound (Leads path) (λ e. tt) (refuse_if (nat_lt limit.PATH_BYTES (length path)) ENAMETOOLONG) _ (λ u short.
    bound (Leads path) (λ e. tt) (refuse_if (list_any (λ b. b == 0) path) EINVAL) _ (λ _ _.
    bound (Leads path) (λ e. tt) (refuse_if (list_any is_dots (components_of path)) EINVAL) _ (λ _ _.
    bound (Leads path) (λ e. tt) (refuse_if (has_trailing_slash path) EINVAL) _ (λ _ _.
    bound (Leads path) (λ e. tt) (refuse_if
    (list_any (λ name. nat_lt limit.NAME_BYTES (length name)) (components_of path)) ENAMETOOLONG) _
    (λ _ _. (
      refl,
      short_path (length path)
          (not_refused (nat_lt limit.PATH_BYTES (length path)) ENAMETOOLONG u short),
    )))))))

pub resolved_leads : (paths : PathMap) (path : List ℕ) (components : List (List ℕ))
    → resolved paths path ≡ Ok components
    → (components ≡ components_of path) × (length path ≤ limit.PATH_BYTES)
resolved_leads paths path components is = subst (Leads path) is leads
  where
    leads : Leads path (resolved paths path)
    leads =
        bound (Leads path) (λ e. tt) (path_form path) _ (λ found form.
        bound (Leads path) (λ e. tt) (walked paths [] found) _ (λ _ _. subst (Leads path) form (form_leads path)))

not_there : (o : Option Node) → is_some o ≡ false → o ≡ None
not_there None is = refl
not_there (Some node) is = absurd (true≢false is)

room_left : (n : ℕ) → nat_le limit.NAMES n ≡ false → n < limit.NAMES
room_left n h = grind (arith, nat_tests)

missing : (paths : PathMap) (components : List (List ℕ)) → node_at paths components ≡ None
    → fin.get paths components ≡ None
missing paths [] is = absurd (none-some _ (sym is))
missing paths (name ∷ names) is = is

pub free_path : (paths : PathMap) (path : List ℕ) (components : List (List ℕ)) → resolved paths path ≡ Ok components
    → node_at paths components ≡ None
    → nat_le limit.NAMES (fin.len paths) ≡ false → IsFreePath paths path
free_path paths path components is none room =
    let leads = resolved_leads paths path components is in (
      room_left (fin.len paths) room,
      leads.1,
      missing paths (components_of path) (ap (node_at paths) (sym leads.0)
          ∙ none),
    )
