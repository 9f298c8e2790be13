-- Changes that keep a table sound.
use Rattle.std.proofs.Common.{replicate, not, ◌&&◌, Result, Ok, Err, ◌≡◌, ◌≢◌, ℕ, zero, suc, ◌+◌, ◌-◌, ◌<◌, ◌≤◌, ◌==◌}
use Rattle.std.proofs.Common.{List, [], ◌∷◌, length, Option, Some, None, is_some, IsTrue, Bool, true, false, cond}
use Rattle.std.proofs.Common.{count_by, unwrap_or, refl, sym, ap, ◌∙◌, subst, inl, inr, arith}
use Rattle.std.proofs.lemmas.Bool.{and_parts, cases_eq, eq-eqb, eqb-true, false≢true}
use Rattle.std.proofs.lemmas.Bool.Decides.{nat_tests}
use Rattle.std.proofs.lemmas.List.{length-set, get_or-set_same, get_or-set_other}
use Rattle.std.proofs.lemmas.List.Sums.{sum_by-set, sum_by-cons, count_by-le-length}
use Rattle.std.proofs.lemmas.Option.{none-some}
use Rattle.std.specs.Cmp.{nat_cmp_total}
use Rattle.std.specs.FinMap as fin
use Rattle.std.specs.FinMap.{FinMap, len-remove, get-empty}
use Rattle.std.specs.Ordering.{nat_cmp}
use Rattle.directories.specs.Lookup.{looked_up}
use Rattle.std.specs.Prelude.{ℤ, pos, negsuc, slice_index_or, slice_set}
use Rattle.sequential_object.specs.Descriptors.{is_file, is_key}
use Rattle.sequential_object.specs.Names.{PathMap, links_of, moved}
use Rattle.directories.specs.Naming.{file_node}
use Rattle.sequential_object.specs.Object.{Node, FileNode, Directory, path_cmp}
use Rattle.sequential_object.specs.Paths.{node_at, resolved}
use Rattle.sequential_object.specs.Refusals.{◌>>=◌}
use Rattle.posix_terms.specs.declared.errno.Errno.{Errno}
use Rattle.posix_terms.specs.Ends.{is_first}
use Rattle.file_descriptions.specs.Descriptions.{AreSound, ContainsKey, DescriptionMap, description_at, has_first_end}
use Rattle.file_descriptions.specs.Descriptions.{has_second_end, is_last_held, no_description, with_description}
use Rattle.file_descriptions.specs.Descriptions.{with_holder, with_new, without, without_holder}
use Rattle.file_descriptions.specs.declared.description.Description.{Description}
use Rattle.descriptor_table.proofs.Closing.{over_closed}
use Rattle.descriptor_table.proofs.MapLemmas.{each_put, get-insert_other, get-insert_same, get-remove_other}
use Rattle.descriptor_table.proofs.MapLemmas.{get-remove_same, got_less, got_put, no_keys, paths_total, some_less}
use Rattle.descriptor_table.proofs.ObjectLemmas.{Taken, IsNew, IsOld, freed_slot, slot, taken_slot, uncounted}
use Rattle.descriptor_table.proofs.ObjectLemmas.{uncounted_value}
use Rattle.descriptor_table.specs.Changes.{NamesUsed, closed, let_go, shared, with_object}
use Rattle.descriptor_table.specs.Table.{TableState, IsSound, empty_table, is_closed, is_gone, is_used, key_at}

pub numbers_of : (t : TableState) → IsSound t → length t.descriptors ≡ 32
numbers_of t sound = sound.numbers

pub object_numbers_of : (t : TableState) → IsSound t → length t.objects ≡ 48
object_numbers_of t sound = sound.object_numbers

-- ## A description under a key

abbrev or_none : Option Description → Description
or_none o = unwrap_or o no_description

pub with_same : (m : DescriptionMap) (key : ℕ) (d : Description) → description_at (with_description m key d) key ≡ d
with_same m key d = ap or_none (get-insert_same m.by_key key d)

pub with_other : (m : DescriptionMap) (key : ℕ) (d : Description) (q : ℕ) → q ≢ key
    → description_at (with_description m key d) q ≡ description_at m q
with_other m key d q apart = ap or_none (get-insert_other m.by_key key d q apart)

pub without_same : (m : DescriptionMap) (key : ℕ) → description_at (without m key) key ≡ no_description
without_same m key = ap or_none (get-remove_same m.by_key key)

pub without_other : (m : DescriptionMap) (key : ℕ) (q : ℕ) → q ≢ key
    → description_at (without m key) q ≡ description_at m q
without_other m key q apart = ap or_none (get-remove_other m.by_key key q apart)

-- ## Which descriptors refer to a key

abbrev refers : ℕ → Option ℕ → Bool
refers key o = is_key o key

abbrev pub held_by : List (Option ℕ) → ℕ → ℕ
held_by descriptors key = count_by (λ (o : Option ℕ). is_key o key) descriptors

abbrev holders_at : DescriptionMap → ℕ → ℕ
holders_at m key = (description_at m key).holders

pub another : (x y : ℕ) → x ≢ y → (x == y) ≡ false
another x y apart = grind (arith, nat_tests)

pub held-set : (descriptors : List (Option ℕ)) (n key : ℕ) (o : Option ℕ) → n < length descriptors
    → held_by (slice_set descriptors n o) key + cond (is_key (slice_index_or descriptors n None) key) 1 0
    ≡ held_by descriptors key + cond (is_key o key) 1 0
held-set descriptors n key o h = sum_by-set (λ (o : Option ℕ). cond (is_key o key) 1 0) descriptors n o None h

-- ## The objects of descriptions

-- the objects of these descriptions are there
abbrev pub AreOfObjects : TableState → DescriptionMap → Type 0
AreOfObjects t m = (q : ℕ) (d : Description) → fin.get m.by_key q ≡ Some d → is_used t d.node ≡ true

pub known_at : (m : DescriptionMap) (key : ℕ) → ContainsKey m key → fin.get m.by_key key ≡ Some (description_at m key)
known_at m key there = by_found (fin.get m.by_key key) refl
  where
    by_found : (o : Option Description) → fin.get m.by_key key ≡ o → fin.get m.by_key key ≡ Some (description_at m key)
    by_found None is = absurd (false≢true (sym (ap (λ (o : Option Description). is_some o) is) ∙ there))
    by_found (Some d) is = rw is refl

pub description_got : (m : DescriptionMap) (key : ℕ) (d : Description) → fin.get m.by_key key ≡ Some d
    → description_at m key ≡ d
description_got m key d got = ap or_none got

pub used_of : (t : TableState) (key : ℕ) → IsSound t → ContainsKey t.descriptions key
    → is_used t (description_at t.descriptions key).node ≡ true
used_of t key sound known = sound.described_objects key (description_at t.descriptions key)
    (known_at t.descriptions key known)

of_objects_put : (t : TableState) (m : FinMap nat_cmp Description) (key : ℕ) (d : Description)
    → ((q : ℕ) (e : Description) → fin.get m q ≡ Some e → is_used t e.node ≡ true) → is_used t d.node ≡ true
    → (q : ℕ) (e : Description) → fin.get (fin.insert m key d) q ≡ Some e → is_used t e.node ≡ true
of_objects_put t m key d each used = each_put nat_cmp_total (λ (e : Description). is_used t e.node ≡ true) m key d each
    used

of_objects_with : (t : TableState) (key : ℕ) (d : Description) → IsSound t → is_used t d.node ≡ true
    → AreOfObjects t (with_description t.descriptions key d)
of_objects_with t key d sound used = of_objects_put t t.descriptions.by_key key d sound.described_objects used

of_objects_without : (t : TableState) (key : ℕ) → IsSound t → AreOfObjects t (without t.descriptions key)
of_objects_without t key sound q e is =
    sound.described_objects q e (got_less nat_cmp_total t.descriptions.by_key key q e is)

-- ## Changes

-- a new value of one descriptor, and descriptions that count it
pub sound-changed : (t : TableState) (m : DescriptionMap) (n : ℕ) (o : Option ℕ) → IsSound t → n < 32
    → ((q : ℕ) → holders_at m q + cond (is_key (slice_index_or t.descriptors n None) q) 1 0
    ≡ holders_at t.descriptions q + cond (is_key o q) 1 0)
    → AreOfObjects t m → IsSound (record t { descriptors = slice_set t.descriptors n o; descriptions = m })
sound-changed t m n o sound inside counts there =
    record {
      numbers = length-set t.descriptors n o ∙ sound.numbers;
      object_numbers = sound.object_numbers;
      held = λ q.
          let now : held_by (slice_set t.descriptors n o) q + cond (is_key (slice_index_or t.descriptors n None) q) 1 0
          ≡ held_by t.descriptors q + cond (is_key o q) 1 0 =
          held-set t.descriptors n q o (rw sound.numbers inside) in
          let was : holders_at t.descriptions q ≡ held_by t.descriptors q = sound.held q in
          omega (arith, now, was, counts q);
      described_objects = there;
      named_objects = sound.named_objects;
      born = sound.born;
      distinct = sound.distinct;
    }

-- a description with other flags or another offset
pub sound-kept : (t : TableState) (key : ℕ) (d : Description) → IsSound t → ContainsKey t.descriptions key
    → d.holders ≡ holders_at t.descriptions key → d.node ≡ (description_at t.descriptions key).node
    → IsSound (record t { descriptions = with_description t.descriptions key d })
sound-kept t key d sound known same node =
    record {
      numbers = sound.numbers;
      object_numbers = sound.object_numbers;
      held = λ q. at q;
      described_objects = of_objects_with t key d sound (rw node (used_of t key sound known));
      named_objects = sound.named_objects;
      born = sound.born;
      distinct = sound.distinct;
    }
  where
    at : (q : ℕ) → holders_at (with_description t.descriptions key d) q ≡ held_by t.descriptors q
    at q = elim (cases_eq q key) [
      | inl e ↦ subst (λ (k : ℕ). holders_at (with_description t.descriptions key d) k ≡ held_by t.descriptors k)
          (sym e) (ap (λ (x : Description). x.holders) (with_same t.descriptions key d) ∙ same ∙ sound.held key)
      | inr apart ↦ ap (λ (x : Description). x.holders) (with_other t.descriptions key d q apart) ∙ sound.held q
    ]

-- nothing stands past the end
pub none_past : (descriptors : List (Option ℕ)) (n : ℕ) → length descriptors ≤ n
    → slice_index_or descriptors n None ≡ None
none_past [] zero h = refl
none_past [] (suc n) h = refl
none_past (o ∷ os) zero h = absurd (omega arith)
none_past (o ∷ os) (suc n) h = none_past os n (omega arith)

-- what stands somewhere stands before the end
pub some_inside : (slots : List (Option ℕ)) (n : ℕ) → is_some (slice_index_or slots n None) ≡ true → n < length slots
some_inside slots n used = by_end (none_past slots n)
  where
    by_end : (length slots ≤ n → slice_index_or slots n None ≡ None) → n < length slots
    by_end past = grind (arith, nat_tests)

pub key_inside : (slots : List (Option ℕ)) (n key : ℕ) → slice_index_or slots n None ≡ Some key → n < length slots
key_inside slots n key at = some_inside slots n (ap (λ (o : Option ℕ). is_some o) at)

-- a descriptor refers to a description that is there
held-some : (descriptors : List (Option ℕ)) (n key : ℕ) → slice_index_or descriptors n None ≡ Some key
    → 0 < held_by descriptors key
held-some [] zero key is = absurd (none-some _ is)
held-some [] (suc n) key is = absurd (none-some _ is)
held-some (o ∷ os) zero key is =
    let here : is_key o key ≡ true = ap (λ (x : Option ℕ). is_key x key) is ∙ eq-eqb key key refl in
    let one : ◌≡◌ {A = ℕ} (cond (is_key o key) 1 0) 1 = ap (λ (b : Bool). cond b 1 0) here in
    omega (arith, sum_by-cons (λ (x : Option ℕ). cond (is_key x key) 1 0) o os, one)
held-some (o ∷ os) (suc n) key is =
    omega (arith, sum_by-cons (λ (x : Option ℕ). cond (is_key x key) 1 0) o os, held-some os n key is)

holders-known : (o : Option Description) → 0 < (or_none o).holders → IsTrue (is_some o)
holders-known None h = absurd (omega arith)
holders-known (Some d) h = refl

pub known_of : (t : TableState) (n key : ℕ) → IsSound t → slice_index_or t.descriptors n None ≡ Some key
    → ContainsKey t.descriptions key
known_of t n key sound is =
    let some : 0 < held_by t.descriptors key = held-some t.descriptors n key is in
    let same : holders_at t.descriptions key ≡ held_by t.descriptors key = sound.held key in
    holders-known (fin.get t.descriptions.by_key key) (omega arith)

-- names of files that are there
pub sound-named : (t : TableState) (paths : PathMap) → IsSound t
    → ((path : List (List ℕ)) (node : ℕ) → fin.get paths path ≡ Some (FileNode node) → is_used t node ≡ true)
    → IsSound (record t { paths = paths })
sound-named t paths sound there =
    record {
      numbers = sound.numbers;
      object_numbers = sound.object_numbers;
      held = sound.held;
      described_objects = sound.described_objects;
      named_objects = there;
      born = sound.born;
      distinct = sound.distinct;
    }

-- ## One descriptor more, or less

cond_self : (key : ℕ) → ◌≡◌ {A = ℕ} (cond (key == key) 1 0) 1
cond_self key = ap (λ (b : Bool). cond b 1 0) (eq-eqb key key refl)

cond_other : (key q : ℕ) → q ≢ key → ◌≡◌ {A = ℕ} (cond (key == q) 1 0) 0
cond_other key q apart = ap (λ (b : Bool). cond b 1 0) (another key q (λ e. apart (sym e)))

-- what is said of each key, from what is said of this one and of the others
by_key : (P : ℕ → Type 0) (key : ℕ) → P key → ((q : ℕ) → q ≢ key → P q) → (q : ℕ) → P q
by_key P key here others q = elim (cases_eq q key) [
  | inl e ↦ subst P (sym e) here
  | inr apart ↦ others q apart
]

pub sound-shared : (t : TableState) (n key : ℕ) → IsSound t → ContainsKey t.descriptions key → n < 32
    → slice_index_or t.descriptors n None ≡ None → IsSound (shared t n key)
sound-shared t n key sound known inside free = sound-changed t (with_holder t.descriptions key) n (Some key) sound
    inside (by_key (λ q. holders_at (with_holder t.descriptions key) q + cond
    (is_key (slice_index_or t.descriptors n None) q) 1 0 ≡ holders_at t.descriptions q + cond (key == q) 1 0) key here
    others)
    (of_objects_with t key (record d { holders = d.holders + 1 }) sound (used_of t key sound known))
  where
    d : Description
    d = description_at t.descriptions key

    here : holders_at (with_holder t.descriptions key) key + cond (is_key (slice_index_or t.descriptors n None) key) 1 0
        ≡ holders_at t.descriptions key + cond (key == key) 1 0
    here = rw (free, cond_self key)
        (omega (
          arith,
          ap (λ (x : Description). x.holders)
              (with_same t.descriptions key (record d { holders = d.holders + 1 })),
        ))

    others : (q : ℕ) → q ≢ key → holders_at (with_holder t.descriptions key) q + cond
        (is_key (slice_index_or t.descriptors n None) q) 1 0 ≡ holders_at t.descriptions q + cond (key == q) 1 0
    others q apart = rw (free, cond_other key q apart)
        (omega (
          arith,
          ap (λ (x : Description). x.holders)
              (with_other t.descriptions key (record d { holders = d.holders + 1 }) q apart),
        ))

pub sound-opened : (t : TableState) (n key : ℕ) (d : Description) → IsSound t → n < 32
    → slice_index_or t.descriptors n None ≡ None → fin.get t.descriptions.by_key key ≡ None → d.holders ≡ 1
    → is_used t d.node ≡ true → IsSound
    (record t { descriptors = slice_set t.descriptors n (Some key); descriptions = with_new t.descriptions key d })
sound-opened t n key d sound inside free fresh one used = sound-changed t (with_new t.descriptions key d) n (Some key)
    sound inside (by_key (λ q. holders_at (with_new t.descriptions key d) q + cond
    (is_key (slice_index_or t.descriptors n None) q) 1 0 ≡ holders_at t.descriptions q + cond (key == q) 1 0) key here
    others)
    (of_objects_put t t.descriptions.by_key key d sound.described_objects used)
  where
    none : holders_at t.descriptions key ≡ 0
    none = ap (λ (o : Option Description). (or_none o).holders) fresh

    here : holders_at (with_new t.descriptions key d) key + cond (is_key (slice_index_or t.descriptors n None) key) 1 0
        ≡ holders_at t.descriptions key + cond (key == key) 1 0
    here = rw (free, cond_self key)
        (omega (arith, none, one, ap (λ (x : Description). x.holders) (with_same t.descriptions key d)))

    others : (q : ℕ) → q ≢ key → holders_at (with_new t.descriptions key d) q + cond
        (is_key (slice_index_or t.descriptors n None) q) 1 0 ≡ holders_at t.descriptions q + cond (key == q) 1 0
    others q apart = rw (free, cond_other key q apart)
        (omega (arith, ap (λ (x : Description). x.holders) (with_other t.descriptions key d q apart)))

abbrev fewer : DescriptionMap → ℕ → Description → Bool → DescriptionMap
fewer m key d last = cond last (without m key) (with_description m key (record d { holders = d.holders - 1 }))

fewer_here : (m : DescriptionMap) (key : ℕ) (d : Description) (last : Bool) → (d.holders == 1) ≡ last → 0 < d.holders
    → holders_at (fewer m key d last) key + 1 ≡ d.holders
fewer_here m key d true is some =
    let one : d.holders ≡ 1 = grind (arith, nat_tests) in
    omega (arith, one, ap (λ (x : Description). x.holders) (without_same m key))
fewer_here m key d false is some =
    omega (arith, ap (λ (x : Description). x.holders) (with_same m key (record d { holders = d.holders - 1 })))

fewer_other : (m : DescriptionMap) (key q : ℕ) (d : Description) (last : Bool) → q ≢ key
    → holders_at (fewer m key d last) q ≡ holders_at m q
fewer_other m key q d true apart = ap (λ (x : Description). x.holders) (without_other m key q apart)
fewer_other m key q d false apart =
    ap (λ (x : Description). x.holders) (with_other m key (record d { holders = d.holders - 1 }) q apart)

pub sound-let_go : (t : TableState) (n key : ℕ) → IsSound t → n < 32 → slice_index_or t.descriptors n None ≡ Some key
    → IsSound (let_go t n key)
sound-let_go t n key sound inside is = sound-changed t (without_holder t.descriptions key) n None sound inside
    (by_key (λ q. holders_at (without_holder t.descriptions key) q + cond
    (is_key (slice_index_or t.descriptors n None) q) 1 0 ≡ holders_at t.descriptions q + 0) key here others)
    (still (is_last_held t.descriptions key))
  where
    still : (last : Bool) → AreOfObjects t (fewer t.descriptions key (description_at t.descriptions key) last)
    still true = of_objects_without t key sound
    still false = of_objects_with t key
        (record (description_at t.descriptions key) { holders = (description_at t.descriptions key).holders - 1 }) sound
        (used_of t key sound (known_of t n key sound is))

    d : Description
    d = description_at t.descriptions key

    some : 0 < d.holders
    some = let count : 0 < held_by t.descriptors key = held-some t.descriptors n key is in
        let same : d.holders ≡ held_by t.descriptors key = sound.held key in omega arith

    here : holders_at (without_holder t.descriptions key) key + cond (is_key (slice_index_or t.descriptors n None) key)
        1 0 ≡ holders_at t.descriptions key + 0
    here = rw (is, cond_self key) (omega (arith, fewer_here t.descriptions key d (d.holders == 1) refl some))

    others : (q : ℕ) → q ≢ key → holders_at (without_holder t.descriptions key) q + cond
        (is_key (slice_index_or t.descriptors n None) q) 1 0 ≡ holders_at t.descriptions q + 0
    others q apart = rw (is, cond_other key q apart)
        (omega (arith, fewer_other t.descriptions key q d (d.holders == 1) apart))

-- ## There are no more descriptions than open descriptors

abbrev pub is_open : Option ℕ → Bool
is_open o = is_some o

pub open-cons : (o : Option ℕ) (os : List (Option ℕ))
    → count_by is_open (o ∷ os) ≡ cond (is_open o) 1 0 + count_by is_open os
open-cons o os = sum_by-cons (λ (x : Option ℕ). cond (is_open x) 1 0) o os

held-cons : (o : Option ℕ) (os : List (Option ℕ)) (q : ℕ) → held_by (o ∷ os) q ≡ cond (is_key o q) 1 0 + held_by os q
held-cons o os q = sum_by-cons (λ (x : Option ℕ). cond (is_key x q) 1 0) o os

cond_less : (b : Bool) (n k : ℕ) → cond b (n - 1) n ≤ k → n ≤ 1 + k
cond_less true n k h = omega arith
cond_less false n k h = omega arith

few-keys : (descriptors : List (Option ℕ)) (m : FinMap nat_cmp Description)
    → ((q : ℕ) → IsTrue (is_some (fin.get m q)) → 0 < held_by descriptors q) → fin.len m ≤ count_by is_open descriptors
few-keys [] m each = rw (no_keys m (λ q there. let h : 0 < held_by [] q = each q there in absurd (omega arith)))
    (omega arith)
few-keys (None ∷ os) m each =
    let rest = few-keys os m (λ q there. let h : 0 < held_by (None ∷ os) q = each q there in
    omega (arith, held-cons None os q)) in
    omega (arith, rest, open-cons None os)
few-keys (Some key ∷ os) m each =
    let rest : fin.len (fin.remove m key) ≤ count_by is_open os = few-keys os (fin.remove m key) others in
    let less : cond (fin.contains_key m key) (fin.len m - 1) (fin.len m) ≤ count_by is_open os =
    rw (len-remove nat_cmp_total m key) at rest in
    omega (arith, cond_less (fin.contains_key m key) (fin.len m) (count_by is_open os) less, open-cons (Some key) os)
  where
    others : (q : ℕ) → IsTrue (is_some (fin.get (fin.remove m key) q)) → 0 < held_by os q
    others q there = let old = some_less m key q there in later q old.0 (each q old.1)
      where
        later : (q : ℕ) → q ≢ key → 0 < held_by (Some key ∷ os) q → 0 < held_by os q
        later q apart h = omega (arith, h, held-cons (Some key) os q, cond_other key q apart)

pub not_all_open : (descriptors : List (Option ℕ)) (n : ℕ) → n < length descriptors
    → slice_index_or descriptors n None ≡ None → count_by is_open descriptors < length descriptors
not_all_open [] n h free = absurd (omega arith)
not_all_open (o ∷ os) zero h free =
    let shut : ◌≡◌ {A = ℕ} (cond (is_open o) 1 0) 0 = ap (λ (x : Option ℕ). cond (is_open x) 1 0) free in
    omega (arith, shut, open-cons o os, count_by-le-length is_open os)
not_all_open (o ∷ os) (suc n) h free = let rest = not_all_open os n (omega arith) free in
    omega (arith, rest, at_most_one (is_open o), open-cons o os)
  where
    at_most_one : (b : Bool) → cond b 1 0 ≤ 1
    at_most_one true = omega arith
    at_most_one false = omega arith

held_where : (o : Option Description) → IsTrue (is_some o) → ((d : Description) → o ≡ Some d → 1 ≤ d.holders)
    → 0 < (or_none o).holders
held_where None there each = absurd (false≢true there)
held_where (Some d) there each = let h : 1 ≤ d.holders = each d refl in omega arith

-- where a descriptor is free there is room for one description more
pub room_of : (t : TableState) (n : ℕ) → IsSound t → AreSound t.descriptions → n < 32
    → slice_index_or t.descriptors n None ≡ None → fin.len t.descriptions.by_key < 32
room_of t n sound all inside free =
    let few : fin.len t.descriptions.by_key ≤ count_by is_open t.descriptors =
    few-keys t.descriptors t.descriptions.by_key
    (λ q there.
    let h : 0 < holders_at t.descriptions q = held_where (fin.get t.descriptions.by_key q) there (all.held q)
    in let same : holders_at t.descriptions q ≡ held_by t.descriptors q = sound.held q in omega arith) in
    let shut : count_by is_open t.descriptors < length t.descriptors =
    not_all_open t.descriptors n (rw sound.numbers inside) free in
    let long : length t.descriptors ≡ 32 = sound.numbers in
    omega (arith, few, shut, long)

-- ## Names

-- what names lead to after one more, or one less
names_put : (t : TableState) (path : List (List ℕ)) (node : Node) → IsSound t
    → ((n : ℕ) → node ≡ FileNode n → is_used t n ≡ true)
    → (q : List (List ℕ)) (n : ℕ) → fin.get (fin.insert t.paths path node) q ≡ Some (FileNode n) → is_used t n ≡ true
names_put t path node sound used q n is =
    elim (got_put paths_total t.paths path node q (FileNode n) is) [
      | inl same ↦ used n same
      | inr old ↦ sound.named_objects q n old
    ]

pub names_without : (t : TableState) (path : List (List ℕ)) → IsSound t
    → (q : List (List ℕ)) (n : ℕ) → fin.get (fin.remove t.paths path) q ≡ Some (FileNode n) → is_used t n ≡ true
names_without t path sound q n is = sound.named_objects q n (got_less paths_total t.paths path q (FileNode n) is)

-- a chain that comes through came through its first link
pub bind_ok : {A B : Type 0} (r : Result A Errno) (f : A → Result B Errno) (y : B) → (r >>= f) ≡ Ok y → (x : A)
    × ((r ≡ Ok x) × (f x ≡ Ok y))
bind_ok (Ok x) f y is = (x, (refl, is))
bind_ok (Err e) f y is = cc

pub ok_same : {A : Type 0} (x y : A) → ◌≡◌ {A = Result A Errno} (Ok x) (Ok y) → x ≡ y
ok_same x y is = cc

pub same_file : (n m : ℕ) → FileNode n ≡ FileNode m → n ≡ m
same_file n m e = cc

file_of_node : (o : Option Node) (node : ℕ) → file_node o ≡ Ok node → o ≡ Some (FileNode node)
file_of_node None node is = cc
file_of_node (Some Directory) node is = cc
file_of_node (Some (FileNode object)) node is = ap (λ (n : ℕ). Some (FileNode n)) (ok_same object node is)

-- a name more, of a directory or of a file that is there
pub sound-name : (t : TableState) (components : List (List ℕ)) (node : Node) → NamesUsed t node → IsSound t
    → IsSound (record t { paths = fin.insert t.paths components node })
sound-name t components node used sound = sound-named t (fin.insert t.paths components node) sound
    (names_put t components node sound (λ n same. subst (λ (x : Node). NamesUsed t x) same used))

-- and one less
pub sound-unnamed : (t : TableState) (components : List (List ℕ)) → IsSound t
    → IsSound (record t { paths = fin.remove t.paths components })
sound-unnamed t components sound = sound-named t (fin.remove t.paths components) sound
    (names_without t components sound)

-- a name of a file in the place of another one
pub sound-moved : (t : TableState) (old new : List (List ℕ)) (node : ℕ)
    → fin.get t.paths old ≡ Some (FileNode node)
    → IsSound t → IsSound (record t { paths = moved t.paths old new node })
sound-moved t old new node its sound =
    sound-name (record t { paths = fin.remove t.paths old }) new (FileNode node)
    (sound.named_objects old node its) (sound-unnamed t old sound)

-- the file of a name is there
pub named_at : (t : TableState) (components : List (List ℕ)) (node : ℕ) → IsSound t
    → node_at t.paths components ≡ Some (FileNode node) → is_used t node ≡ true
named_at t [] node sound is = cc
named_at t (name ∷ names) node sound is = sound.named_objects (name ∷ names) node is

pub used-found : (t : TableState) (path : List ℕ) (node : ℕ) → looked_up t.paths path ≡ Ok (Some (FileNode node))
    → IsSound t → is_used t node ≡ true
unfolding looked_up
used-found t path node is sound =
    let found = bind_ok (resolved t.paths path) (λ components. Ok (node_at t.paths components)) (Some (FileNode node))
    is in
    named_at t found.0 node sound (ok_same (node_at t.paths found.0) (Some (FileNode node)) found.1.1)

-- ## Objects

sound-numbers : (t : TableState) (paths : PathMap) (objects : List (Option ℕ)) (made : ℕ) → IsSound t
    → length objects ≡ 48
    → ((key : ℕ) (d : Description) → fin.get t.descriptions.by_key key ≡ Some d → is_some (slot objects d.node) ≡ true)
    → ((path : List (List ℕ)) (node : ℕ) → fin.get paths path ≡ Some (FileNode node)
    → is_some (slot objects node) ≡ true)
    → ((n birth : ℕ) → slot objects n ≡ Some birth → birth < made)
    → ((n m birth : ℕ) → slot objects n ≡ Some birth → slot objects m ≡ Some birth → n ≡ m)
    → IsSound (record t { paths = paths; objects = objects; made_objects = made })
sound-numbers t paths objects made sound long described named born distinct =
    record {
      numbers = sound.numbers;
      object_numbers = long;
      held = sound.held;
      described_objects = described;
      named_objects = named;
      born = born;
      distinct = distinct;
    }

-- a number that is taken stays so when another one is taken or freed
kept_some : (objects : List (Option ℕ)) (node n : ℕ) (o : Option ℕ) → n ≢ node → is_some (slot objects n) ≡ true
    → is_some (slot (slice_set objects node o) n) ≡ true
kept_some objects node n o apart there = ap (λ (x : Option ℕ). is_some x) (get_or-set_other objects node n o None apart)
    ∙ there

more_some : (objects : List (Option ℕ)) (node n new : ℕ) → node < length objects → is_some (slot objects n) ≡ true
    → is_some (slot (slice_set objects node (Some new)) n) ≡ true
more_some objects node n new inside there =
    elim (cases_eq n node) [
      | inl e ↦ ap (λ (x : Option ℕ). is_some x) (ap (slot (slice_set objects node (Some new))) e
          ∙ get_or-set_same objects node (Some new) None inside)
      | inr apart ↦ kept_some objects node n (Some new) apart there
    ]

either_end : (d : Description) (node : ℕ) (first : Bool) → d.node ≡ node → ((d.node == node) && first) ≡ false
    → ((d.node == node) && not first) ≡ false → ⊥
either_end d node true same first second =
    false≢true (sym first ∙ ap (λ (b : Bool). b && true) (eq-eqb d.node node same))
either_end d node false same first second =
    false≢true (sym second ∙ ap (λ (b : Bool). b && true) (eq-eqb d.node node same))

-- no description is of an object that has no ends
pub not_described : (t : TableState) (node : ℕ) → is_closed t node ≡ true → (key : ℕ) (d : Description)
    → fin.get t.descriptions.by_key key ≡ Some d → d.node ≢ node
not_described t node shut key d is same =
    let none = and_parts (count_by (has_first_end node) (fin.values t.descriptions.by_key) == 0)
    (count_by (has_second_end node) (fin.values t.descriptions.by_key) == 0) shut in
    either_end d node (is_first d.«end») same
    (uncounted_value nat_cmp (has_first_end node) t.descriptions.by_key key d is (eqb-true _ 0 none.0))
    (uncounted_value nat_cmp (has_second_end node) t.descriptions.by_key key d is (eqb-true _ 0 none.1))

pub not_named : (t : TableState) (node : ℕ) → links_of t.paths node ≡ 0 → (path : List (List ℕ)) (n : ℕ)
    → fin.get t.paths path ≡ Some (FileNode n) → n ≢ node
not_named t node none path n is same =
    false≢true (sym (uncounted path_cmp (λ x. is_file x node) t.paths path (FileNode n) is none) ∙ eq-eqb n node same)

pub sound-freed : (t : TableState) (node : ℕ) → is_gone t node ≡ true → IsSound t
    → IsSound (record t { objects = slice_set t.objects node None })
sound-freed t node gone sound =
    let none = and_parts (is_closed t node) (links_of t.paths node == 0) gone in
    sound-numbers t t.paths (slice_set t.objects node None) t.made_objects sound (length-set t.objects node None
    ∙ sound.object_numbers)
    (λ key d is. kept_some t.objects node d.node None (not_described t node none.0 key d is)
    (sound.described_objects key d is))
    (λ path n is. kept_some t.objects node n None (not_named t node (eqb-true _ 0 none.1) path n is)
    (sound.named_objects path n is))
    (λ n birth is. sound.born n birth (freed_slot t.objects node n birth is).0)
    (λ n m birth is its. sound.distinct n m birth (freed_slot t.objects node n birth is).0
    (freed_slot t.objects node m birth its).0)

-- what remains when a descriptor is closed
pub sound-closed : (t : TableState) (n key : ℕ) → IsSound t → slice_index_or t.descriptors n None ≡ Some key
    → IsSound (closed t n key)
sound-closed t n key sound at =
    over_closed IsSound t n key left (λ node gone. sound-freed (let_go t n key) node gone left)
  where
    inside : n < 32
    inside = let below : n < length t.descriptors = key_inside t.descriptors n key at in
        omega (arith, below, sound.numbers)

    left : IsSound (let_go t n key)
    left = sound-let_go t n key sound inside at

born_made : (t : TableState) (node n birth : ℕ) → IsSound t → Taken t.objects node t.made_objects n birth
    → birth < t.made_objects + 1
born_made t node n birth sound (IsNew here is) = omega (arith, is)
born_made t node n birth sound (IsOld was) = let h : birth < t.made_objects = sound.born n birth was in omega arith

distinct_made : (t : TableState) (node n m birth : ℕ) → IsSound t → Taken t.objects node t.made_objects n birth
    → Taken t.objects node t.made_objects m birth → n ≡ m
distinct_made t node n m birth sound (IsNew here is) (IsNew there its) = here ∙ sym there
distinct_made t node n m birth sound (IsNew here is) (IsOld its) =
    let h : birth < t.made_objects = sound.born m birth its in absurd (omega (arith, is))
distinct_made t node n m birth sound (IsOld was) (IsNew there its) =
    let h : birth < t.made_objects = sound.born n birth was in absurd (omega (arith, its))
distinct_made t node n m birth sound (IsOld was) (IsOld its) = sound.distinct n m birth was its

-- a new object that no path names
pub sound-with_object : (t : TableState) (node : ℕ) → node < 48 → slot t.objects node ≡ None → IsSound t
    → IsSound (with_object t node)
sound-with_object t node low free sound =
    let within : node < length t.objects = rw sound.object_numbers low in
    sound-numbers t t.paths (slice_set t.objects node (Some t.made_objects)) (t.made_objects + 1) sound
    (length-set t.objects node (Some t.made_objects) ∙ sound.object_numbers)
    (λ key d is. more_some t.objects node d.node t.made_objects within (sound.described_objects key d is))
    (λ q n h. more_some t.objects node n t.made_objects within (sound.named_objects q n h))
    (λ n birth is. born_made t node n birth sound (taken_slot t.objects node t.made_objects n birth within is))
    (λ n m birth is its. distinct_made t node n m birth sound
    (taken_slot t.objects node t.made_objects n birth within is)
    (taken_slot t.objects node t.made_objects m birth within its))

pub sound-with_file : (t : TableState) (components : List (List ℕ)) (node : ℕ) → node < length t.objects
    → slot t.objects node ≡ None → IsSound t
    → IsSound (record t {
      paths = fin.insert t.paths components (FileNode node);
      objects = slice_set t.objects node (Some t.made_objects);
      made_objects = t.made_objects + 1;
    })
sound-with_file t components node within free sound =
    sound-numbers t (fin.insert t.paths components (FileNode node)) (slice_set t.objects node (Some t.made_objects))
    (t.made_objects + 1) sound (length-set t.objects node (Some t.made_objects) ∙ sound.object_numbers)
    (λ key d is. more_some t.objects node d.node t.made_objects within (sound.described_objects key d is))
    (λ q n h. named_made q n h)
    (λ n birth is. born_made t node n birth sound (taken_slot t.objects node t.made_objects n birth within is))
    (λ n m birth is its. distinct_made t node n m birth sound
    (taken_slot t.objects node t.made_objects n birth within is)
    (taken_slot t.objects node t.made_objects m birth within its))
  where
    named_made : (q : List (List ℕ)) (n : ℕ) → fin.get (fin.insert t.paths components (FileNode node)) q
        ≡ Some (FileNode n)
        → is_some (slot (slice_set t.objects node (Some t.made_objects)) n) ≡ true
    named_made q n is =
        elim (got_put paths_total t.paths components (FileNode node) q (FileNode n) is) [
          | inl same ↦ (
              ap (λ (x : Option ℕ). is_some x)
              (ap (slot (slice_set t.objects node (Some t.made_objects))) (sym (same_file node n same))
              ∙ get_or-set_same t.objects node (Some t.made_objects) None within))
          | inr old ↦ more_some t.objects node n t.made_objects within (sound.named_objects q n old)
        ]

pub slot_replicate : (k n : ℕ) → slot (replicate k None) n ≡ None
slot_replicate zero zero = refl
slot_replicate zero (suc n) = refl
slot_replicate (suc k) zero = refl
slot_replicate (suc k) (suc n) = slot_replicate k n

pub sound-empty : IsSound empty_table
sound-empty =
    record {
      numbers = refl;
      object_numbers = refl;
      held = λ key. ap (λ (o : Option Description). (or_none o).holders) (get-empty nat_cmp key);
      described_objects = λ key d is. absurd (none-some _ (sym (get-empty nat_cmp key) ∙ is));
      named_objects = λ path node is. absurd (none-some _ (sym (get-empty path_cmp path) ∙ is));
      born = λ n birth is. absurd (none-some _ (sym (slot_replicate 48 n) ∙ is));
      distinct = λ n m birth is its. absurd (none-some _ (sym (slot_replicate 48 n) ∙ is));
    }

pub ruleset sound = (numbers_of, object_numbers_of, known_of, none_past)

-- ## What a descriptor refers to after a change

descriptors-closed : (t : TableState) (n key : ℕ) → (closed t n key).descriptors ≡ slice_set t.descriptors n None
descriptors-closed t n key =
    over_closed (λ (u : TableState). u.descriptors ≡ slice_set t.descriptors n None) t n key refl (λ node gone. refl)

-- a closed number refers to nothing
pub closed_same : (t : TableState) (n key : ℕ) → n < length t.descriptors → key_at (closed t n key) (pos n) ≡ None
closed_same t n key h =
    ap (λ (ds : List (Option ℕ)). slice_index_or ds n None) (descriptors-closed t n key)
    ∙ get_or-set_same t.descriptors n None None h

apart_at : (t : TableState) (n key m : ℕ) → m ≢ n
    → slice_index_or (closed t n key).descriptors m None ≡ slice_index_or t.descriptors m None
apart_at t n key m apart =
    ap (λ (ds : List (Option ℕ)). slice_index_or ds m None) (descriptors-closed t n key)
    ∙ get_or-set_other t.descriptors n m None None apart

-- and another one to what it referred to
pub closed_other : (t : TableState) (n key : ℕ) (descriptor : ℤ) → descriptor ≢ pos n
    → key_at (closed t n key) descriptor ≡ key_at t descriptor
closed_other t n key (pos m) apart = apart_at t n key m (λ e. apart (ap (λ (x : ℕ). pos x) e))
closed_other t n key (negsuc m) apart = refl

pub ruleset keys = (closed_same, closed_other)
