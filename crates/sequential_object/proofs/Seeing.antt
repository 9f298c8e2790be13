-- What a call sees of a state is there.
use Rattle.std.proofs.Common.{◌≡◌, ℕ, zero, suc, ◌+◌, ◌-◌, ◌<◌, ◌≤◌, ℤ, pos, List, [], ◌∷◌, Bool, true, false, Option}
use Rattle.std.proofs.Common.{Some, None, is_some, Result, Ok, Err, if◌then◌else◌, ap, refl, sym, subst, ◌∙◌, arith}
use Rattle.std.proofs.lemmas.Bool.{true≢false}
use Rattle.std.proofs.lemmas.Option.{none-some, same_Some}
use Rattle.std.specs.FinMap as fin
use Rattle.std.specs.Prelude.{is_ok, length, nat_le, nat_lt, ◌==◌}
use Rattle.std.specs.List.{list_any}
use Rattle.posix_terms.specs.declared.errno.Errno.{Errno}
use Rattle.posix_terms.specs.declared.errno.Errno.TheVariants.{EBADF, EINVAL, ENAMETOOLONG, ENOENT}
use Rattle.posix_terms.specs.declared.limits.TheConstants.Limits as limit
use Rattle.sequential_object.specs.Descriptors.{described, key_at, lowest_from}
use Rattle.sequential_object.specs.Meant.{seen, seen_of}
use Rattle.sequential_object.specs.Names.{PathMap}
use Rattle.sequential_object.specs.Object.{Description, Directory, FileNode, Node, State}
use Rattle.sequential_object.specs.Paths.{components_of, has_trailing_slash, is_dots, node_at, path_form, resolved}
use Rattle.sequential_object.specs.Paths.{walked}
use Rattle.sequential_object.specs.Refusals.{◌>>=◌, refuse_if, some_or}
use Rattle.sequential_object.specs.declared.decision.Seen.{Seen}
use Rattle.sequential_object.proofs.Binds.{gave, same_ok}
use Rattle.sequential_object.proofs.Tidy.{IsFree}

-- ## Descriptors

some_gave : {A : Type 0} (o : Option A) (e : Errno) (a : A) → some_or o e ≡ Ok a → o ≡ Some a
some_gave (Some x) e a h = ap Some (same_ok x a h)
some_gave None e a h = absurd (true≢false (sym (ap is_ok h)))

-- a description that was found, and where
pub record Found (s : State) (descriptor : ℤ) (key : ℕ) (d : Description) : Type 0 where
  pub at : key_at s descriptor ≡ Some key
  pub there : fin.get s.descriptions key ≡ Some d

-- the description of a key, with it
abbrev keyed : State → ℕ → Option Description → Result (ℕ × Description) Errno
keyed s key o = some_or o EBADF >>= (λ (d : Description). Ok (key, d))

abbrev found_at : State → Option ℕ → Result (ℕ × Description) Errno
found_at s o = some_or o EBADF >>= (λ (key : ℕ). keyed s key (fin.get s.descriptions key))

key_found : (s : State) (o : Option ℕ) (found : ℕ × Description) → found_at s o ≡ Ok found → (o ≡ Some found.0)
    × (fin.get s.descriptions found.0 ≡ Some found.1)
key_found s o found h =
    let one = gave (some_or o EBADF) _ found h in
    let two = gave (some_or (fin.get s.descriptions one.0) EBADF) _ found one.1.1 in
    let same : (one.0, two.0) ≡ found = same_ok (one.0, two.0) found two.1.1 in
    subst (λ (p : ℕ × Description). (o ≡ Some p.0) × (fin.get s.descriptions p.0 ≡ Some p.1)) same
    (some_gave o EBADF one.0 one.1.0, some_gave (fin.get s.descriptions one.0) EBADF two.0 two.1.0)

pub is_found : (s : State) (descriptor : ℤ) (found : ℕ × Description) → described s descriptor ≡ Ok found
    → Found s descriptor found.0 found.1
is_found s descriptor found h = let its = key_found s (key_at s descriptor) found h in
    record { at = its.0; there = its.1 }

-- a descriptor that refers to a description is found
pub found_of : (s : State) (n key : ℕ) (d : Description) → fin.get s.descriptors n ≡ Some key
    → fin.get s.descriptions key ≡ Some d → described s (pos n) ≡ Ok (key, d)
found_of s n key d at there = ap (found_at s) at ∙ ap (keyed s key) there

-- what was seen by a descriptor
pub record IsFound (s : State) (descriptor : ℤ) (at : Seen) : Type 0 where
  pub description : Description
  pub is_described : described s descriptor ≡ Ok (at.key, description)
  pub found : Found s descriptor at.key description
  pub is_seen : at ≡ seen_of s descriptor (at.key, description)

pub shown_by : (s : State) (descriptor : ℤ) (at : Seen) → (let v = seen s in v.described descriptor ≡ Ok at)
    → IsFound s descriptor at
unfolding seen
shown_by s descriptor at is =
    let one = gave (described s descriptor) _ at is in
    let same : seen_of s descriptor one.0 ≡ at = same_ok (seen_of s descriptor one.0) at one.1.1 in
    subst (IsFound s descriptor) same (record {
      description = one.0.1;
      is_described = one.1.0;
      found = is_found s descriptor one.0 one.1.0;
      is_seen = refl;
    })

-- and what was not
pub not_shown : (s : State) (descriptor : ℤ) (e : Errno) → (let v = seen s in v.described descriptor ≡ Err e)
    → (found : ℕ × Description) → described s descriptor ≡ Ok found → ⊥
unfolding seen
not_shown s descriptor e is found its =
    let shown : ◌≡◌ {A = Result Seen Errno} (Ok (seen_of s descriptor found)) (Err e) =
    sym (ap (λ (r : Result (ℕ × Description) Errno). r >>= (λ found. Ok (seen_of s descriptor found))) its) ∙ is in
    true≢false (ap is_ok shown)

-- ## Numbers

-- the lowest number is free, and one of those that were looked at
record IsLowest (s : State) (left first n : ℕ) : Type 0 where
  free : fin.get s.descriptors n ≡ None
  least : first ≤ n
  below : n < first + left

lowest_is : (s : State) (left first n : ℕ) → lowest_from s left first ≡ Some n → IsLowest s left first n
unfolding lowest_from
lowest_is s zero first n is = absurd (none-some n is)
lowest_is s (suc left) first n is =
    by_test (fin.get s.descriptors first) refl is (λ later. lowest_is s left (first + 1) n later)
  where
    here : fin.get s.descriptors first ≡ None → first ≡ n → IsLowest s (suc left) first n
    here free same = record {
      free = ap (fin.get s.descriptors) (sym same) ∙ free;
      least = omega arith;
      below = omega arith;
    }

    further : IsLowest s left (first + 1) n → IsLowest s (suc left) first n
    further it =
        let least : first + 1 ≤ n = it.least in
        let below : n < first + 1 + left = it.below in
        record { free = it.free; least = omega arith; below = omega arith }

    by_test : (o : Option ℕ) → fin.get s.descriptors first ≡ o
        → (if is_some o then lowest_from s left (first + 1) else Some first) ≡ Some n
        → (lowest_from s left (first + 1) ≡ Some n → IsLowest s left (first + 1) n) → IsLowest s (suc left) first n
    by_test (Some key) at is later = further (later is)
    by_test None at is later = here at (same_Some first n is)

pub free_from : (s : State) (least n : ℕ) → (let v = seen s in v.lowest least ≡ Some n) → IsFree s n × (least ≤ n)
unfolding seen
free_from s least n is =
    let it = lowest_is s (limit.DESCRIPTORS - least) least n is in
    let more : least ≤ n = it.least in
    let below : n < least + (limit.DESCRIPTORS - least) = it.below in
    (record { free = it.free; below = omega arith }, more)

-- ## Names

-- a path whose prefix is there has its own components
resolved_is : (paths : PathMap) (path : List ℕ) (components : List (List ℕ)) → resolved paths path ≡ Ok components
    → components ≡ components_of path
unfolding path_form
resolved_is paths path components h =
    let one = gave (path_form path) _ components h in
    let two = gave (walked paths [] one.0) _ components one.1.1 in
    sym (same_ok one.0 components two.1.1) ∙ formed one.0 one.1.0
  where
    formed : (k : List (List ℕ)) → path_form path ≡ Ok k → k ≡ components_of path
    formed k is =
        let a = gave (refuse_if (length path == 0) ENOENT) _ k is in
        let b = gave (refuse_if (nat_lt limit.PATH_BYTES (length path)) ENAMETOOLONG) _ k a.1.1 in
        let c = gave (refuse_if (list_any (λ b. b == 0) path) EINVAL) _ k b.1.1 in
        let d = gave (refuse_if (list_any is_dots (components_of path)) EINVAL) _ k c.1.1 in
        let e = gave (refuse_if (has_trailing_slash path) EINVAL) _ k d.1.1 in
        let f = gave (refuse_if (list_any (λ name. nat_lt limit.NAME_BYTES (length name)) (components_of path))
        ENAMETOOLONG) _ k e.1.1 in
        sym (same_ok (components_of path) k f.1.1)

pub named_at : (s : State) (path : List ℕ) (o : Option Node) → (let v = seen s in v.named path ≡ Ok o)
    → node_at s.paths (components_of path) ≡ o
unfolding seen
named_at s path o is =
    let one = gave (resolved s.paths path) _ o is in
    ap (node_at s.paths) (sym (resolved_is s.paths path one.0 one.1.0)) ∙ same_ok (node_at s.paths one.0) o one.1.1

-- nothing stands where nothing is named
pub no_node : (paths : PathMap) (components : List (List ℕ)) → node_at paths components ≡ None
    → fin.get paths components ≡ None
no_node paths [] is = absurd (none-some Directory (sym is))
no_node paths (name ∷ names) is = is

pub file_there : (paths : PathMap) (components : List (List ℕ)) (object : ℕ)
    → node_at paths components ≡ Some (FileNode object) → fin.get paths components ≡ Some (FileNode object)
file_there paths [] object is = cc
file_there paths (name ∷ names) object is = is

-- ## The next object

pub next_is : (s : State) (object : ℕ) → (let v = seen s in v.next ≡ Some object) → object ≡ s.next_object
unfolding seen
next_is s object is = by_room (nat_le limit.OBJECTS (fin.len s.objects)) is
  where
    by_room : (b : Bool) → (if b then None else Some s.next_object) ≡ Some object → object ≡ s.next_object
    by_room true h = absurd (none-some object h)
    by_room false h = sym (same_Some s.next_object object h)
