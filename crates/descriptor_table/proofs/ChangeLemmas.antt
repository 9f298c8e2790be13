-- Changes of a table, beside those of the state that it shows.
use Rattle.std.proofs.Common.{◌≡◌, ◌≢◌, ◌⊎◌, ℕ, ◌+◌, ◌-◌, ◌<◌, ◌==◌, ◌&&◌, ◌||◌, List, [], length, Option, Some, None}
use Rattle.std.proofs.Common.{is_some, unwrap_or, Bool, true, false, cond, not, if◌then◌else◌, refl, sym, ap, ◌∙◌}
use Rattle.std.proofs.Common.{subst, inl, inr, arith}
use Rattle.std.proofs.lemmas.Bool.{and_parts, cases_eq, eq-eqb, eqb-true, false≢true, true≢false}
use Rattle.std.proofs.lemmas.List.{get_or-set_same, get_or-set_other}
use Rattle.std.proofs.lemmas.Option.{none-some, same_Some}
use Rattle.std.specs.FinMap as fin
use Rattle.std.specs.FinMap.{FinMap, get-insert, get-remove}
use Rattle.std.specs.Option.{option_map}
use Rattle.std.specs.Ordering.{nat_cmp, eq_by_cmp}
use Rattle.std.specs.Prelude.{pos, slice_index_or, slice_set}
use Rattle.sequential_object.specs.Descriptors as posix
use Rattle.sequential_object.specs.Descriptors.{is_key}
use Rattle.sequential_object.specs.Duplicates as duplicates
use Rattle.sequential_object.specs.Names.{links_of, moved, with_paths}
use Rattle.sequential_object.specs.Object as object
use Rattle.sequential_object.specs.Object.{State, Content, File, Node, FileNode, Directory, path_cmp, content_of}
use Rattle.file_descriptions.specs.Laws.{ChangesKeepSound}
use Rattle.file_descriptions.specs.Descriptions.{AreSound, ContainsKey, DescriptionMap, description_at, new_description}
use Rattle.file_descriptions.specs.Descriptions.{with_description, with_holder, with_new, with_offset, without}
use Rattle.file_descriptions.specs.declared.description.Description.{Description}
use Rattle.posix_terms.specs.declared.object.End.{End}
use Rattle.posix_terms.specs.declared.object.End.TheVariants as part
use Rattle.file_descriptions.specs.declared.description.StatusFlags.{StatusFlags}
use Rattle.posix_terms.specs.declared.call.Access.{Access}
use Rattle.std.specs.Cmp.{nat_cmp_total}
use Rattle.descriptor_table.proofs.MapLemmas.{each_put, get-insert_other, get-insert_same, get-remove_other}
use Rattle.descriptor_table.proofs.MapLemmas.{get-remove_same, got_less, got_put, less_at, paths_total, put_at}
use Rattle.descriptor_table.proofs.MapLemmas.{some_less, some_put, still_some}
use Rattle.descriptor_table.specs.Laws.{HasEndsOf}
use Rattle.descriptor_table.proofs.ObjectLemmas.{IsNew, IsOld, Taken, freed_slot, taken_slot}
use Rattle.descriptor_table.proofs.PathLemmas.{birth_below, birth_is, closed_shown, first_of_any, linked_shown}
use Rattle.descriptor_table.proofs.PathLemmas.{one_object}
use Rattle.sequential_object.specs.Meant.{moved_to}
use Rattle.descriptor_table.proofs.ShownLemmas.{key_known, last_shown}
use Rattle.descriptor_table.proofs.SoundLemmas.{not_described, not_named, known_at, sound-let_go, description_got}
use Rattle.descriptor_table.proofs.SoundLemmas.{key_inside, same_file, with_other, with_same, without_other}
use Rattle.descriptor_table.specs.Changes.{closed, opened, shared, with_file, with_object, without_gone}
use Rattle.descriptor_table.specs.Shows.{Shows, birth_at, birth_of, is_of, shown, shown_node}
use Rattle.descriptor_table.specs.Table.{TableState, IsSound, is_closed, is_gone, is_used}

-- ## Descriptions

-- the part of the descriptions, as a table with these objects shows it
pub record Describes (t : TableState) (m : DescriptionMap) (sd : FinMap nat_cmp object.Description) : Type 0 where
  pub there : (key : ℕ) (d : Description) → fin.get m.by_key key ≡ Some d → fin.get sd d.birth ≡ Some (shown t d)
  pub own : (birth : ℕ) → is_some (fin.get sd birth) ≡ true → (key : ℕ) × (d : Description)
      × (fin.get m.by_key key ≡ Some d) × (d.birth ≡ birth)

pub describes_of : (t : TableState) (s : State) → Shows t s → Describes t t.descriptions s.descriptions
describes_of t s shows = record { there = shows.descriptions; own = shows.described }

-- a description under a key, whose birth no other key has
pub describes_put : (t : TableState) (m : DescriptionMap) (sd after : FinMap nat_cmp object.Description) (key : ℕ)
    (d : Description) → Describes t m sd
    → ((q : ℕ) (e : Description) → fin.get m.by_key q ≡ Some e → e.birth ≡ d.birth → q ≡ key)
    → ((e : Description) → fin.get m.by_key key ≡ Some e → e.birth ≡ d.birth)
    → fin.get after d.birth ≡ Some (shown t d)
    → ((birth : ℕ) → birth ≢ d.birth → fin.get after birth ≡ fin.get sd birth)
    → Describes t (with_description m key d) after
describes_put t m sd after key d was only same here others = record { there = there; own = own }
  where
    there : (q : ℕ) (e : Description) → fin.get (fin.insert m.by_key key d) q ≡ Some e
        → fin.get after e.birth ≡ Some (shown t e)
    there q e is =
        elim (put_at m.by_key key d q e is) [
          | inl new ↦ subst (λ (x : Description). fin.get after x.birth ≡ Some (shown t x)) new.1 here
          | inr old ↦ (others e.birth (λ b. old.0 (only q e old.1 b)) ∙ was.there q e old.1)
        ]

    own : (birth : ℕ) → is_some (fin.get after birth) ≡ true → (q : ℕ) × (e : Description)
        × (fin.get (fin.insert m.by_key key d) q ≡ Some e) × (e.birth ≡ birth)
    own birth is =
        elim (cases_eq birth d.birth) [
          | inl at ↦ (key, d, get-insert_same m.by_key key d, sym at)
          | inr apart ↦ (
              let before = was.own birth (sym (ap (λ (o : Option object.Description). is_some o) (others birth apart))
              ∙ is) in (
                before.0,
                before.1,
                get-insert_other m.by_key key d before.0
                    (λ e. apart (sym before.3 ∙ same before.1 (ap (fin.get m.by_key) (sym e) ∙ before.2)))
                    ∙ before.2,
                before.3,
              ))
        ]

same_birth : (m : DescriptionMap) (key : ℕ) (d : Description) → fin.get m.by_key key ≡ Some d → (e : Description)
    → fin.get m.by_key key ≡ Some e → e.birth ≡ d.birth
same_birth m key d got e is = ap (λ (x : Description). x.birth) (same_Some _ _ (sym is ∙ got))

-- without a description
pub describes_less : (t : TableState) (m : DescriptionMap) (sd : FinMap nat_cmp object.Description) (key : ℕ)
    (d : Description) → AreSound m → Describes t m sd → fin.get m.by_key key ≡ Some d
    → Describes t (without m key) (fin.remove sd d.birth)
describes_less t m sd key d all was got = record { there = there; own = own }
  where
    there : (q : ℕ) (e : Description) → fin.get (fin.remove m.by_key key) q ≡ Some e
        → fin.get (fin.remove sd d.birth) e.birth ≡ Some (shown t e)
    there q e is =
        let old = less_at m.by_key key q e is in
        get-remove_other sd d.birth e.birth (λ b. old.0 (all.distinct q key e d old.1 got b)) ∙ was.there q e old.1

    own : (birth : ℕ) → is_some (fin.get (fin.remove sd d.birth) birth) ≡ true → (q : ℕ) × (e : Description)
        × (fin.get (fin.remove m.by_key key) q ≡ Some e) × (e.birth ≡ birth)
    own birth is =
        let left = some_less sd d.birth birth is in
        let before = was.own birth left.1 in
        let apart : before.0 ≢ key =
        (λ e. left.0 (sym before.3 ∙ same_birth m key d got before.1 (ap (fin.get m.by_key) (sym e) ∙ before.2))) in
        (before.0, before.1, get-remove_other m.by_key key before.0 apart ∙ before.2, before.3)

-- the part of the ends
abbrev pub HaveEnds : TableState → State → DescriptionMap → Type 0
HaveEnds t s m = (key : ℕ) (d : Description) → fin.get m.by_key key ≡ Some d
    → is_of d.«end» (content_of s (birth_at t d.node)) ≡ true

pub ends_put : (t : TableState) (s : State) (m : DescriptionMap) (key : ℕ) (d : Description)
    → HaveEnds t s m → is_of d.«end» (content_of s (birth_at t d.node)) ≡ true → HaveEnds t s (with_description m key d)
ends_put t s m key d was here =
    each_put nat_cmp_total (λ (e : Description). is_of e.«end» (content_of s (birth_at t e.node)) ≡ true) m.by_key key d
    was here

pub ends_less : (t : TableState) (s : State) (m : DescriptionMap) (key : ℕ) → HaveEnds t s m
    → HaveEnds t s (without m key)
ends_less t s m key was q e is = was q e (got_less nat_cmp_total m.by_key key q e is)

-- the birth of the description under a key
abbrev pub birth_in : DescriptionMap → ℕ → ℕ
birth_in m key = let d : Description = description_at m key in d.birth

pub birth_got : (m : DescriptionMap) (key : ℕ) (d : Description) → fin.get m.by_key key ≡ Some d
    → birth_in m key ≡ d.birth
birth_got m key d got = ap (λ (x : Description). x.birth) (description_got m key d got)

birth_other : (m : DescriptionMap) (key q : ℕ) (d : Description) → q ≢ key
    → birth_in (with_description m key d) q ≡ birth_in m q
birth_other m key q d apart = ap (λ (x : Description). x.birth) (with_other m key d q apart)

birth_here : (m : DescriptionMap) (key : ℕ) (d : Description) → birth_in (with_description m key d) key ≡ d.birth
birth_here m key d = ap (λ (x : Description). x.birth) (with_same m key d)

birth_less : (m : DescriptionMap) (key q : ℕ) → q ≢ key → birth_in (without m key) q ≡ birth_in m q
birth_less m key q apart = ap (λ (x : Description). x.birth) (without_other m key q apart)

-- a description that keeps its birth
birth_kept : (m : DescriptionMap) (key q : ℕ) (d : Description) → d.birth ≡ birth_in m key
    → birth_in (with_description m key d) q ≡ birth_in m q
birth_kept m key q d same =
    elim (cases_eq q key) [
      | inl at ↦ ap (birth_in (with_description m key d)) at ∙ birth_here m key d ∙ same ∙ ap (birth_in m) (sym at)
      | inr apart ↦ birth_other m key q d apart
    ]

-- ## Descriptors

-- one descriptor has another value, and the others refer to what they referred to
pub refers_set : (t : TableState) (s : State) (m : DescriptionMap) (after : FinMap nat_cmp ℕ) (n : ℕ) (o : Option ℕ)
    → Shows t s → n < length t.descriptors
    → fin.get after n ≡ option_map (birth_in m) o
    → ((k : ℕ) → k ≢ n → fin.get after k ≡ fin.get s.descriptors k)
    → ((k q : ℕ) → k ≢ n → slice_index_or t.descriptors k None ≡ Some q → birth_in m q ≡ birth_of t q)
    → (k : ℕ) → fin.get after k ≡ option_map (birth_in m) (slice_index_or (slice_set t.descriptors n o) k None)
refers_set t s m after n o shows inside here others births k =
    elim (cases_eq k n) [
      | inl at ↦ ap (fin.get after) at ∙ here
          ∙ sym (ap (option_map (birth_in m)) (ap (λ (i : ℕ). slice_index_or (slice_set t.descriptors n o) i None) at
          ∙ get_or-set_same t.descriptors n o None inside))
      | inr apart ↦ others k apart ∙ shows.descriptors k
          ∙ by_slot (slice_index_or t.descriptors k None) (λ q is. births k q apart is)
          ∙ sym (ap (option_map (birth_in m)) (get_or-set_other t.descriptors n k o None apart))
    ]
  where
    by_slot : (x : Option ℕ) → ((q : ℕ) → x ≡ Some q → birth_in m q ≡ birth_of t q)
        → option_map (birth_of t) x ≡ option_map (birth_in m) x
    by_slot None same = refl
    by_slot (Some q) same = ap (λ (b : ℕ). Some b) (sym (same q refl))

-- ## One descriptor more

-- what no other key has
only_birth : (m : DescriptionMap) (key : ℕ) (d : Description) → AreSound m → fin.get m.by_key key ≡ Some d
    → (q : ℕ) (e : Description) → fin.get m.by_key q ≡ Some e → e.birth ≡ d.birth → q ≡ key
only_birth m key d all got q e is same = all.distinct q key e d is got same

-- a description with another number of holders is shown as it was
describes_held : (t : TableState) (s : State) (key holders : ℕ) (d : Description) → AreSound t.descriptions → Shows t s
    → fin.get t.descriptions.by_key key ≡ Some d
    → Describes t (with_description t.descriptions key (record d { holders = holders })) s.descriptions
describes_held t s key holders d all shows got =
    describes_put t t.descriptions s.descriptions s.descriptions key (record d { holders = holders })
    (describes_of t s shows)
    (only_birth t.descriptions key d all got) (same_birth t.descriptions key d got) (shows.descriptions key d got)
    (λ birth apart. refl)

pub shows-shared : (t : TableState) (s : State) (n key : ℕ) (d : Description) → AreSound t.descriptions → Shows t s
    → n < length t.descriptors → fin.get t.descriptions.by_key key ≡ Some d
    → Shows (shared t n key) (duplicates.shared s n d.birth)
shows-shared t s n key d all shows inside got =
    record {
      descriptors = refers_set t s (with_holder t.descriptions key) (fin.insert s.descriptors n d.birth) n (Some key)
          shows inside
          (get-insert_same s.descriptors n d.birth
          ∙ ap (λ (b : ℕ). Some b) (sym (birth_kept t.descriptions key key
          (record (description_at t.descriptions key) { holders = (description_at t.descriptions key).holders + 1 })
          refl ∙ birth_got t.descriptions key d got)))
          (λ k apart. get-insert_other s.descriptors n d.birth k apart)
          (λ k q apart is. birth_kept t.descriptions key q
          (record (description_at t.descriptions key) { holders = (description_at t.descriptions key).holders + 1 })
          refl);
      descriptions = held.there;
      described = held.own;
      paths = shows.paths;
      objects = shows.objects;
      numbered = shows.numbered;
      ends = ends_put t s t.descriptions key
          (record (description_at t.descriptions key) { holders = (description_at t.descriptions key).holders + 1 })
          shows.ends (shows.ends key (description_at t.descriptions key)
          (got ∙ ap (λ (x : Description). Some x) (sym (description_got t.descriptions key d got))));
      files = shows.files;
      next_description = shows.next_description;
      next_object = shows.next_object;
    }
  where
    held : Describes t (with_holder t.descriptions key) s.descriptions
    held = subst (λ (x : Description). Describes t
        (with_description t.descriptions key (record x { holders = x.holders + 1 })) s.descriptions)
        (sym (description_got t.descriptions key d got)) (describes_held t s key (d.holders + 1) d all shows got)

-- ## One descriptor less

-- another descriptor's key is not this one, where this one has but one descriptor
module _ (t : TableState) (s : State) (n key : ℕ) (d : Description) (sound : IsSound t) (all : AreSound t.descriptions)
    (shows : Shows t s) (inside : n < length t.descriptors) (at : slice_index_or t.descriptors n None ≡ Some key)
    (got : fin.get t.descriptions.by_key key ≡ Some d) where
  -- it stays: another descriptor refers to it
  shows-still : Shows (record t {
    descriptors = slice_set t.descriptors n None;
    descriptions = with_description t.descriptions key (record d { holders = d.holders - 1 });
  })
      (posix.freed s (pos n))
  shows-still =
      record {
        descriptors = refers_set t s (with_description t.descriptions key (record d { holders = d.holders - 1 }))
            (fin.remove s.descriptors n) n None shows inside
            (get-remove_same s.descriptors n)
            (λ k apart. get-remove_other s.descriptors n k apart)
            (λ k q apart is. birth_kept t.descriptions key q (record d { holders = d.holders - 1 })
            (sym (birth_got t.descriptions key d got)));
        descriptions = held.there;
        described = held.own;
        paths = shows.paths;
        objects = shows.objects;
        numbered = shows.numbered;
        ends = ends_put t s t.descriptions key (record d { holders = d.holders - 1 }) shows.ends (shows.ends key d got);
        files = shows.files;
        next_description = shows.next_description;
        next_object = shows.next_object;
      }
    where
      held : Describes t (with_description t.descriptions key (record d { holders = d.holders - 1 })) s.descriptions
      held = describes_held t s key (d.holders - 1) d all shows got

  -- it ends: no other descriptor refers to it
  shows-ended : ((k : ℕ) → k ≢ n → slice_index_or t.descriptors k None ≡ Some key → ⊥)
      → Shows (record t { descriptors = slice_set t.descriptors n None; descriptions = without t.descriptions key })
      (record (posix.freed s (pos n)) { descriptions = fin.remove s.descriptions d.birth })
  shows-ended alone =
      record {
        descriptors = refers_set t s (without t.descriptions key) (fin.remove s.descriptors n) n None shows inside
            (get-remove_same s.descriptors n)
            (λ k apart. get-remove_other s.descriptors n k apart)
            (λ k q apart is. birth_less t.descriptions key q
            (λ same. alone k apart (is ∙ ap (λ (x : ℕ). Some x) same)));
        descriptions = less.there;
        described = less.own;
        paths = shows.paths;
        objects = shows.objects;
        numbered = shows.numbered;
        ends = ends_less t s t.descriptions key shows.ends;
        files = shows.files;
        next_description = shows.next_description;
        next_object = shows.next_object;
      }
    where
      less : Describes t (without t.descriptions key) (fin.remove s.descriptions d.birth)
      less = describes_less t t.descriptions s.descriptions key d all (describes_of t s shows) got

-- a description of the object of this birth
abbrev shown_at : Description → ℕ → Option object.Description
shown_at d b = Some (record {
  object = b;
  «end» = d.«end»;
  access = d.access;
  offset = d.offset;
  append = d.flags.append;
  nonblock = d.flags.nonblock;
})

-- ## An object less

birth_apart : (t : TableState) (node n : ℕ) → n ≢ node
    → birth_at (record t { objects = slice_set t.objects node None }) n ≡ birth_at t n
birth_apart t node n apart = ap (λ (o : Option ℕ). unwrap_or o t.made_objects)
    (get_or-set_other t.objects node n None None apart)

shows-freed : (t : TableState) (s : State) (node : ℕ) → IsSound t → Shows t s → is_used t node ≡ true
    → ((key : ℕ) (d : Description) → fin.get t.descriptions.by_key key ≡ Some d → d.node ≢ node)
    → ((path : List (List ℕ)) (n : ℕ) → fin.get t.paths path ≡ Some (FileNode n) → n ≢ node)
    → Shows (record t { objects = slice_set t.objects node None })
    (record s { objects = fin.remove s.objects (birth_at t node) })
shows-freed t s node sound shows used undescribed unnamed =
    record {
      descriptors = shows.descriptors;
      descriptions = λ key d got. shows.descriptions key d got
          ∙ ap (shown_at d) (sym (birth_apart t node d.node (undescribed key d got)));
      described = shows.described;
      paths = λ path. shows.paths path ∙ names (fin.get t.paths path) (λ n is. unnamed path n is);
      objects = λ n birth is. (let was = freed_slot t.objects node n birth is in
          ap (λ (o : Option Content). is_some o)
          (get-remove_other s.objects (birth_at t node) birth
          (λ same. was.1 (sound.distinct n node birth was.0 (birth_is t node used
          ∙ ap (λ (b : ℕ). Some b) (sym same))))) ∙ shows.objects n birth was.0);
      numbered = λ birth is. numbered birth is;
      ends = λ key d got. ap (is_of d.«end»)
          (content_apart d.node (sound.described_objects key d got) (undescribed key d got)) ∙ shows.ends key d got;
      files = λ path n is. ap (is_of part.Only) (content_apart n (sound.named_objects path n is) (unnamed path n is))
          ∙ shows.files path n is;
      next_description = shows.next_description;
      next_object = shows.next_object;
    }
  where
    content_apart : (n : ℕ) → is_used t n ≡ true → n ≢ node
        → content_of (record s { objects = fin.remove s.objects (birth_at t node) })
        (birth_at (record t { objects = slice_set t.objects node None }) n) ≡ content_of s (birth_at t n)
    content_apart n its apart =
        ap (λ (b : ℕ). unwrap_or (fin.get (fin.remove s.objects (birth_at t node)) b) (File []))
        (birth_apart t node n apart)
        ∙ ap (λ (o : Option Content). unwrap_or o (File []))
        (get-remove_other s.objects (birth_at t node) (birth_at t n)
        (λ same. apart (one_object t n node sound its used same)))

    names : (o : Option Node) → ((n : ℕ) → o ≡ Some (FileNode n) → n ≢ node)
        → option_map (shown_node t) o ≡ option_map (shown_node (record t { objects = slice_set t.objects node None })) o
    names None apart = refl
    names (Some Directory) apart = refl
    names (Some (FileNode n)) apart = ap (λ (b : ℕ). Some (FileNode b)) (sym (birth_apart t node n (apart n refl)))

    numbered : (birth : ℕ) → is_some (fin.get (fin.remove s.objects (birth_at t node)) birth) ≡ true → (n : ℕ)
        × (slice_index_or (slice_set t.objects node None) n None ≡ Some birth)
    numbered birth is =
        let left = some_less s.objects (birth_at t node) birth is in
        let was = shows.numbered birth left.1 in
        let other : was.0 ≢ node =
        (λ same. left.0 (same_Some _ _ (sym was.1 ∙ ap (λ (k : ℕ). slice_index_or t.objects k None) same
        ∙ birth_is t node used))) in
        (was.0, get_or-set_other t.objects node was.0 None None other ∙ was.1)

both_of : (a b : Bool) → (not a && not b) ≡ not (a || b)
both_of true b = refl
both_of false b = refl

gone_as : (a b c d : Bool) → a ≡ not c → b ≡ not d → (a && b) ≡ not (c || d)
gone_as a b c d x y = ap (λ (z : Bool). z && b) x ∙ ap (λ (z : Bool). not c && z) y ∙ both_of c d

-- an object that nothing refers to leaves both
pub shows-without_gone : (t : TableState) (s : State) (node : ℕ) → IsSound t → AreSound t.descriptions → Shows t s
    → is_used t node ≡ true → Shows (without_gone t node) (posix.without_unused s (birth_at t node))
shows-without_gone t s node sound all shows used =
    by_test (is_gone t node) (posix.has_description s (birth_at t node) || posix.has_path s (birth_at t node)) refl
    (gone_as (is_closed t node) (links_of t.paths node == 0) (posix.has_description s (birth_at t node))
    (posix.has_path s (birth_at t node)) (closed_shown t s node sound all shows used)
    (linked_shown t s node sound shows used))
  where
    by_test : (g u : Bool) → is_gone t node ≡ g → g ≡ not u
        → Shows (if g then record t { objects = slice_set t.objects node None } else t) (if u then s
        else record s { objects = fin.remove s.objects (birth_at t node) })
    by_test true true is e = absurd (true≢false e)
    by_test false false is e = absurd (false≢true e)
    by_test false true is e = shows
    by_test true false is e =
        let both = and_parts (is_closed t node) (links_of t.paths node == 0) is in
        shows-freed t s node sound shows used (not_described t node both.0)
        (not_named t node (eqb-true (links_of t.paths node) 0 both.1))

-- ## A descriptor that is closed

-- where a description has one descriptor no other one refers to it
alone_at : (t : TableState) (s : State) (n key : ℕ) (d : Description) → IsSound t → AreSound t.descriptions → Shows t s
    → slice_index_or t.descriptors n None ≡ Some key → fin.get t.descriptions.by_key key ≡ Some d
    → (d.holders == 1) ≡ true
    → (k : ℕ) → k ≢ n → slice_index_or t.descriptors k None ≡ Some key → ⊥
alone_at t s n key d sound all shows at got last k apart is =
    let inside : k < length t.descriptors = key_inside t.descriptors k key is in
    let long : length t.descriptors ≡ 32 = sound.numbers in
    let refers : fin.get (fin.remove s.descriptors n) k ≡ Some (birth_of t key) =
    get-remove_other s.descriptors n k apart ∙ shows.descriptors k ∙ ap (option_map (birth_of t)) is in
    let found : posix.has_descriptor (posix.freed s (pos n)) d.birth ≡ true =
    first_of_any 32 (λ m. is_key (fin.get (fin.remove s.descriptors n) m) d.birth) k (omega (arith, long))
    (ap (λ (o : Option ℕ). is_key o d.birth) refers
    ∙ eq-eqb (birth_of t key) d.birth (birth_got t.descriptions key d got)) in
    true≢false (sym found ∙ last_shown t s n key d sound all shows at got ∙ ap not last)

pub shows-closed : ChangesKeepSound → (t : TableState) (s : State) (n key : ℕ) → IsSound t → AreSound t.descriptions
    → Shows t s → slice_index_or t.descriptors n None ≡ Some key
    → fin.get t.descriptions.by_key key ≡ Some (description_at t.descriptions key)
    → Shows (closed t n key) (posix.released (posix.freed s (pos n)) (birth_of t key)
    (shown t (description_at t.descriptions key)))
shows-closed keep t s n key sound all shows at got =
    subst (λ (b : Bool). Shows (closed t n key) (if b then posix.freed s (pos n)
    else posix.without_unused (record (posix.freed s (pos n)) { descriptions = fin.remove s.descriptions d.birth })
    (birth_at t d.node)))
    (sym (last_shown t s n key d sound all shows at got))
    (by_last (d.holders == 1) refl)
  where
    d : Description
    d = description_at t.descriptions key

    inside : n < length t.descriptors
    inside = key_inside t.descriptors n key at

    left : Bool → TableState
    left b = record t {
      descriptors = slice_set t.descriptors n None;
      descriptions = (if b then without t.descriptions key else with_description t.descriptions key
          (record d { holders = d.holders - 1 }));
    }

    by_last : (b : Bool) → (d.holders == 1) ≡ b
        → Shows (if b then without_gone (left b) d.node else left b) (if not b then posix.freed s (pos n)
        else posix.without_unused (record (posix.freed s (pos n)) { descriptions = fin.remove s.descriptions d.birth })
        (birth_at t d.node))
    by_last true is =
        shows-without_gone (left true)
        (record (posix.freed s (pos n)) { descriptions = fin.remove s.descriptions d.birth }) d.node
        (subst (λ (b : Bool). IsSound (left b)) is
        (sound-let_go t n key sound (omega (arith, inside, sound.numbers)) at))
        (keep.removed t.descriptions key all)
        (shows-ended t s n key d sound all shows inside at got (alone_at t s n key d sound all shows at got is))
        (sound.described_objects key d got)
    by_last false is = shows-still t s n key d sound all shows inside at got

-- ## Flags and offsets

-- a description that keeps its birth, as the state has it after
shows-put : (t : TableState) (s : State) (key : ℕ) (d new : Description) (after : FinMap nat_cmp object.Description)
    → Shows t s → fin.get t.descriptions.by_key key ≡ Some d → new.birth ≡ d.birth
    → is_of new.«end» (content_of s (birth_at t new.node)) ≡ true
    → Describes t (with_description t.descriptions key new) after
    → Shows (record t { descriptions = with_description t.descriptions key new }) (record s { descriptions = after })
shows-put t s key d new after shows got same ends put =
    record {
      descriptors = λ n. shows.descriptors n ∙ births (slice_index_or t.descriptors n None);
      descriptions = put.there;
      described = put.own;
      paths = shows.paths;
      objects = shows.objects;
      numbered = shows.numbered;
      ends = ends_put t s t.descriptions key new shows.ends ends;
      files = shows.files;
      next_description = shows.next_description;
      next_object = shows.next_object;
    }
  where
    births : (o : Option ℕ) → option_map (birth_of t) o
        ≡ option_map (birth_in (with_description t.descriptions key new)) o
    births None = refl
    births (Some q) =
        ap (λ (b : ℕ). Some b) (sym (birth_kept t.descriptions key q new
        (same ∙ sym (birth_got t.descriptions key d got))))

pub shows-flags : (t : TableState) (s : State) (key : ℕ) (d : Description) (flags : StatusFlags)
    → AreSound t.descriptions → Shows t s → fin.get t.descriptions.by_key key ≡ Some d
    → let new = record (shown t d) { append = flags.append; nonblock = flags.nonblock } in
    Shows (record t { descriptions = with_description t.descriptions key (record d { flags = flags }) })
    (record s { descriptions = fin.insert s.descriptions d.birth new })
shows-flags t s key d flags all shows got = shows-put t s key d new after shows got refl (shows.ends key d got) put
  where
    new : Description
    new = record d { flags = flags }

    after : FinMap nat_cmp object.Description
    after = fin.insert s.descriptions d.birth (shown t new)

    put : Describes t (with_description t.descriptions key new) after
    put =
        describes_put t t.descriptions s.descriptions after key new (describes_of t s shows)
        (only_birth t.descriptions key d all got) (same_birth t.descriptions key d got)
        (get-insert_same s.descriptions d.birth (shown t new))
        (λ birth apart. get-insert_other s.descriptions d.birth (shown t new) birth apart)

-- whatever the objects hold
pub shows-content : (t : TableState) (s : State) (birth : ℕ) (content : Content) → Shows t s
    → is_some (fin.get s.objects birth) ≡ true → HasEndsOf content (content_of s birth)
    → Shows t (object.with_content s birth content)
shows-content t s birth content shows there alike =
    record {
      descriptors = shows.descriptors;
      descriptions = shows.descriptions;
      described = shows.described;
      paths = shows.paths;
      objects = λ node b is. still_some s.objects birth content b (shows.objects node b is);
      numbered = λ b is. shows.numbered b (was b is);
      ends = λ key d got. kind (birth_at t d.node) d.«end» (shows.ends key d got);
      files = λ path node is. kind (birth_at t node) part.Only (shows.files path node is);
      next_description = shows.next_description;
      next_object = shows.next_object;
    }
  where
    kind : (b : ℕ) (which : End) → is_of which (content_of s b) ≡ true
        → is_of which (content_of (object.with_content s birth content) b) ≡ true
    kind b which is =
        elim (cases_eq b birth) [
          | inl at ↦ ap (λ (o : Option Content). is_of which (unwrap_or o (File [])))
              (ap (fin.get (fin.insert s.objects birth content)) at ∙ get-insert_same s.objects birth content)
              ∙ alike which (ap (λ (x : ℕ). is_of which (content_of s x)) (sym at) ∙ is)
          | inr apart ↦ ap (λ (o : Option Content). is_of which (unwrap_or o (File [])))
              (get-insert_other s.objects birth content b apart) ∙ is
        ]

    was : (b : ℕ) → is_some (fin.get (fin.insert s.objects birth content) b) ≡ true
        → is_some (fin.get s.objects b) ≡ true
    was b is =
        elim (some_put s.objects birth content b is) [
          | inl at ↦ ap (λ (x : ℕ). is_some (fin.get s.objects x)) at ∙ there
          | inr old ↦ old.1
        ]

-- ## Names

shown_put : (t : TableState) (b : Bool) (node : Node) (o : Option Node)
    → cond b (Some (shown_node t node)) (option_map (shown_node t) o)
    ≡ option_map (shown_node t) (cond b (Some node) o)
shown_put t true node o = refl
shown_put t false node o = refl

pub shows-name : (t : TableState) (s : State) (path : List (List ℕ)) (node : Node) → Shows t s
    → ((n : ℕ) → node ≡ FileNode n → is_of part.Only (content_of s (birth_at t n)) ≡ true)
    → Shows (record t { paths = fin.insert t.paths path node })
    (record s { paths = fin.insert s.paths path (shown_node t node) })
shows-name t s path node shows file =
    record {
      descriptors = shows.descriptors;
      descriptions = shows.descriptions;
      described = shows.described;
      paths = λ q.
          get-insert paths_total s.paths path (shown_node t node) q
          ∙ ap (cond (eq_by_cmp path_cmp q path) (Some (shown_node t node))) (shows.paths q)
          ∙ shown_put t (eq_by_cmp path_cmp q path) node (fin.get t.paths q)
          ∙ ap (option_map (shown_node t)) (sym (get-insert paths_total t.paths path node q));
      objects = shows.objects;
      numbered = shows.numbered;
      ends = shows.ends;
      files = λ q n is. file_of q n (got_put paths_total t.paths path node q (FileNode n) is);
      next_description = shows.next_description;
      next_object = shows.next_object;
    }
  where
    file_of : (q : List (List ℕ)) (n : ℕ) → (node ≡ FileNode n) ⊎ (fin.get t.paths q ≡ Some (FileNode n))
        → is_of part.Only (content_of s (birth_at t n)) ≡ true
    file_of q n (inl same) = file n same
    file_of q n (inr old) = shows.files q n old

-- a name less
pub shows-without_name : (t : TableState) (s : State) (path : List (List ℕ)) → Shows t s
    → Shows (record t { paths = fin.remove t.paths path }) (with_paths s (fin.remove s.paths path))
shows-without_name t s path shows =
    record {
      descriptors = shows.descriptors;
      descriptions = shows.descriptions;
      described = shows.described;
      paths = λ q.
          get-remove paths_total s.paths path q
          ∙ ap (cond (eq_by_cmp path_cmp q path) None) (shows.paths q)
          ∙ left_shown (eq_by_cmp path_cmp q path) (fin.get t.paths q)
          ∙ ap (option_map (shown_node t)) (sym (get-remove paths_total t.paths path q));
      objects = shows.objects;
      numbered = shows.numbered;
      ends = shows.ends;
      files = λ q n is. shows.files q n (got_less paths_total t.paths path q (FileNode n) is);
      next_description = shows.next_description;
      next_object = shows.next_object;
    }
  where
    left_shown : (b : Bool) (o : Option Node)
        → cond b None (option_map (shown_node t) o) ≡ option_map (shown_node t) (cond b None o)
    left_shown b o = grind arith

-- a name of a file in the place of another one
pub shows-moved : (t : TableState) (s : State) (old new : List (List ℕ)) (node : ℕ)
    → fin.get t.paths old ≡ Some (FileNode node) → Shows t s
    → Shows (record t { paths = moved t.paths old new node })
    (with_paths s (moved s.paths old new (birth_at t node)))
shows-moved t s old new node its shows =
    shows-name (record t { paths = fin.remove t.paths old }) (with_paths s (fin.remove s.paths old))
    new (FileNode node) (shows-without_name t s old shows)
    (λ n same. is_file n (same_file node n same))
  where
    is_file : (n : ℕ) → node ≡ n → is_of part.Only (content_of s (birth_at t n)) ≡ true
    is_file n same =
        subst (λ (k : ℕ). is_of part.Only (content_of s (birth_at t k)) ≡ true) same
        (shows.files old node its)

-- ## A new description

pub shows-opened : (t : TableState) (s : State) (n key node : ℕ) (which : End) (access : Access) (flags : StatusFlags)
    → IsSound t → AreSound t.descriptions → Shows t s → n < length t.descriptors
    → fin.get t.descriptions.by_key key ≡ None
    → is_of which (content_of s (birth_at t node)) ≡ true
    → Shows (opened t n key node which access flags)
    (posix.opened s n (birth_at t node) which access flags.append flags.nonblock)
shows-opened t s n key node which access flags sound all shows inside fresh has =
    record {
      descriptors = refers_set t s m (fin.insert s.descriptors n s.next_description) n (Some key) shows inside
          (get-insert_same s.descriptors n s.next_description
          ∙ ap (λ (b : ℕ). Some b) (shows.next_description ∙ sym (birth_here t.descriptions key new)))
          (λ k apart. get-insert_other s.descriptors n s.next_description k apart)
          (λ k q apart is. birth_other t.descriptions key q new
          (λ same. none-some _ (sym fresh ∙ ap (fin.get t.descriptions.by_key) (sym same)
          ∙ key_known t (pos k) q sound is)));
      descriptions = put.there;
      described = put.own;
      paths = shows.paths;
      objects = shows.objects;
      numbered = shows.numbered;
      ends = ends_put t s t.descriptions key new shows.ends has;
      files = shows.files;
      next_description = ap (λ (k : ℕ). k + 1) shows.next_description;
      next_object = shows.next_object;
    }
  where
    new : Description
    new = new_description node which access flags t.descriptions.made

    m : DescriptionMap
    m = with_new t.descriptions key new

    after : FinMap nat_cmp object.Description
    after = fin.insert s.descriptions s.next_description (shown t new)

    put : Describes t (with_description t.descriptions key new) after
    put =
        describes_put t t.descriptions s.descriptions after key new (describes_of t s shows)
        (λ q e is same. let h : e.birth < t.descriptions.made = all.born q e is in absurd (omega (arith, h, same)))
        (λ e is. absurd (none-some _ (sym fresh ∙ is)))
        (ap (fin.get after) (sym shows.next_description)
        ∙ get-insert_same s.descriptions s.next_description (shown t new))
        (λ birth apart. get-insert_other s.descriptions s.next_description (shown t new) birth
        (λ same. apart (same ∙ shows.next_description)))

-- ## A new object

pub birth_new : (t : TableState) (node n : ℕ) → slice_index_or t.objects node None ≡ None → is_used t n ≡ true
    → n ≢ node
birth_new t node n free used same =
    false≢true (sym (ap (λ (o : Option ℕ). is_some o) (ap (λ (k : ℕ). slice_index_or t.objects k None) same ∙ free))
    ∙ used)

birth_still : (t : TableState) (node n : ℕ) → slice_index_or t.objects node None ≡ None → is_used t n ≡ true
    → birth_at (with_object t node) n ≡ birth_at t n
birth_still t node n free used =
    ap (λ (o : Option ℕ). unwrap_or o (t.made_objects + 1))
    (get_or-set_other t.objects node n (Some t.made_objects) None (birth_new t node n free used)
    ∙ birth_is t n used)

pub birth_of_new : (t : TableState) (node : ℕ) → node < length t.objects
    → birth_at (with_object t node) node ≡ t.made_objects
birth_of_new t node inside = ap (λ (o : Option ℕ). unwrap_or o (t.made_objects + 1))
    (get_or-set_same t.objects node (Some t.made_objects) None inside)

-- what a new object holds
pub content_of_new : (t : TableState) (s : State) (node : ℕ) (content : Content) → Shows t s → node < length t.objects
    → content_of (object.with_object s content) (birth_at (with_object t node) node) ≡ content
content_of_new t s node content shows inside =
    ap (λ (b : ℕ). unwrap_or (fin.get (fin.insert s.objects s.next_object content) b) (File []))
    (birth_of_new t node inside ∙ sym shows.next_object)
    ∙ ap (λ (o : Option Content). unwrap_or o (File [])) (get-insert_same s.objects s.next_object content)

pub shows-with_object : (t : TableState) (s : State) (content : Content) (node : ℕ) → IsSound t → Shows t s
    → node < length t.objects → slice_index_or t.objects node None ≡ None
    → Shows (with_object t node) (object.with_object s content)
shows-with_object t s content node sound shows inside free =
    record {
      descriptors = shows.descriptors;
      descriptions = λ key d got. shows.descriptions key d got
          ∙ ap (shown_at d) (sym (birth_still t node d.node free (sound.described_objects key d got)));
      described = shows.described;
      paths = λ q. shows.paths q ∙ named (fin.get t.paths q) (λ n is. sound.named_objects q n is);
      objects = λ n birth is. there n birth (taken_slot t.objects node t.made_objects n birth inside is);
      numbered = numbered;
      ends = λ key d got. ap (is_of d.«end») (content_still d.node (sound.described_objects key d got))
          ∙ shows.ends key d got;
      files = λ path n is. ap (is_of part.Only) (content_still n (sound.named_objects path n is))
          ∙ shows.files path n is;
      next_description = shows.next_description;
      next_object = ap (λ (k : ℕ). k + 1) shows.next_object;
    }
  where
    new : TableState
    new = with_object t node

    older : (n : ℕ) → is_used t n ≡ true → birth_at t n ≢ s.next_object
    older n used same = let below : birth_at t n < t.made_objects = birth_below t n sound used in
        absurd (omega (arith, below, same, shows.next_object))

    content_still : (n : ℕ) → is_used t n ≡ true → content_of (object.with_object s content) (birth_at new n)
        ≡ content_of s (birth_at t n)
    content_still n used =
        ap (λ (b : ℕ). unwrap_or (fin.get (fin.insert s.objects s.next_object content) b) (File []))
        (birth_still t node n free used)
        ∙ ap (λ (o : Option Content). unwrap_or o (File []))
        (get-insert_other s.objects s.next_object content (birth_at t n) (older n used))

    named : (o : Option Node) → ((n : ℕ) → o ≡ Some (FileNode n) → is_used t n ≡ true)
        → option_map (shown_node t) o ≡ option_map (shown_node new) o
    named None used = refl
    named (Some Directory) used = refl
    named (Some (FileNode n)) used = ap (λ (b : ℕ). Some (FileNode b)) (sym (birth_still t node n free (used n refl)))

    there : (n birth : ℕ) → Taken t.objects node t.made_objects n birth
        → is_some (fin.get (fin.insert s.objects s.next_object content) birth) ≡ true
    there n birth (IsNew here is) =
        ap (λ (o : Option Content). is_some o)
        (ap (fin.get (fin.insert s.objects s.next_object content)) (is ∙ sym shows.next_object)
        ∙ get-insert_same s.objects s.next_object content)
    there n birth (IsOld was) = still_some s.objects s.next_object content birth (shows.objects n birth was)

    numbered : (birth : ℕ) → is_some (fin.get (fin.insert s.objects s.next_object content) birth) ≡ true → (n : ℕ)
        × (slice_index_or (slice_set t.objects node (Some t.made_objects)) n None ≡ Some birth)
    numbered birth is =
        elim (some_put s.objects s.next_object content birth is) [
          | inl at ↦ (
            node,
            get_or-set_same t.objects node (Some t.made_objects) None inside
                ∙ ap (λ (b : ℕ). Some b) (sym (at ∙ shows.next_object)),
          )
          | inr old ↦ (
              let was = shows.numbered birth old.1 in (
                was.0,
                get_or-set_other t.objects node was.0 (Some t.made_objects) None
                    (λ same. none-some _ (sym free ∙ ap (λ (k : ℕ). slice_index_or t.objects k None) (sym same)
                    ∙ was.1))
                    ∙ was.1,
              ))
        ]

-- a new file, which has a name
pub shows-with_file : (t : TableState) (s : State) (components : List (List ℕ)) (node : ℕ) → IsSound t → Shows t s
    → node < length t.objects → slice_index_or t.objects node None ≡ None
    → Shows (with_file t (fin.insert t.paths components (FileNode node)) node) (posix.with_file s components)
shows-with_file t s components node sound shows inside free =
    subst (λ (b : ℕ). Shows (with_file t (fin.insert t.paths components (FileNode node)) node)
    (record (object.with_object s (File [])) { paths = fin.insert s.paths components (FileNode b) }))
    (birth_of_new t node inside ∙ sym shows.next_object)
    (shows-name (with_object t node) (object.with_object s (File [])) components (FileNode node)
    (shows-with_object t s (File []) node sound shows inside free) (λ n e. is_file n (same_file node n e)))
  where
    is_file : (n : ℕ) → node ≡ n → is_of part.Only
        (content_of (object.with_object s (File [])) (birth_at (with_object t node) n)) ≡ true
    is_file n same = ap (λ (k : ℕ). is_of part.Only
        (content_of (object.with_object s (File [])) (birth_at (with_object t node) k))) (sym same)
        ∙ ap (is_of part.Only) (content_of_new t s node (File []) shows inside)

-- ## An offset that is set

pub shows-set_offset : (t : TableState) (s : State) (key offset : ℕ) → AreSound t.descriptions
    → ContainsKey t.descriptions key → Shows t s
    → Shows (record t { descriptions = with_offset t.descriptions key offset })
    (moved_to s (Some offset) (Some (birth_of t key)) (fin.get s.descriptions (birth_of t key)))
shows-set_offset t s key offset all known shows =
    rw (shows.descriptions key d got) (shows-put t s key d new after shows got refl (shows.ends key d got) put)
  where
    d : Description
    d = description_at t.descriptions key

    new : Description
    new = record d { offset = offset }

    got : fin.get t.descriptions.by_key key ≡ Some d
    got = known_at t.descriptions key known

    after : FinMap nat_cmp object.Description
    after = fin.insert s.descriptions d.birth (shown t new)

    put : Describes t (with_description t.descriptions key new) after
    put =
        describes_put t t.descriptions s.descriptions after key new (describes_of t s shows)
        (only_birth t.descriptions key d all got) (same_birth t.descriptions key d got)
        (get-insert_same s.descriptions d.birth (shown t new))
        (λ birth apart. get-insert_other s.descriptions d.birth (shown t new) birth apart)
