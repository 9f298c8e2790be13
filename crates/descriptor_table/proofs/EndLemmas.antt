-- The ends of objects: which are open, and what the ends say of what an object is.
use Rattle.std.proofs.Common.{arith, ◌≡◌, ℕ, ◌<◌, ◌==◌, ◌&&◌, List, Option, Some, None, is_some, Bool, true, false, not}
use Rattle.std.proofs.Common.{if◌then◌else◌, count_by, refl, sym, ap, ◌∙◌, subst}
use Rattle.std.proofs.lemmas.Bool.{eqb-true, false≢true}
use Rattle.std.proofs.lemmas.Bool.Decides.{nat_tests}
use Rattle.std.specs.Cmp.{both_ways, nat_cmp_total}
use Rattle.std.specs.FinMap as fin
use Rattle.std.specs.List.{list_any}
use Rattle.std.specs.Ordering.{nat_cmp}
use Rattle.sequential_object.specs.Descriptors as posix
use Rattle.sequential_object.specs.Descriptors.{is_of_end}
use Rattle.posix_terms.specs.Ends.{is_end, is_first, side_of}
use Rattle.sequential_object.specs.Object.{State, Content, File, Pipe, Pair, DoorTo, any_below, content_of}
use Rattle.sequential_object.specs.Object as object
use Rattle.sequential_object.specs.Streams.{PairState}
use Rattle.posix_terms.specs.declared.object.Door.{Door}
use Rattle.posix_terms.specs.declared.object.End.{End}
use Rattle.posix_terms.specs.declared.object.End.TheVariants as part
use Rattle.posix_terms.specs.declared.object.Side.{Side}
use Rattle.file_descriptions.specs.Descriptions.{AreSound, ends_of, has_first_end, has_second_end}
use Rattle.file_descriptions.specs.declared.description.Description.{Description}
use Rattle.descriptor_table.proofs.EntryLemmas.{any_of, any_second, counted_none, standing_in}
use Rattle.descriptor_table.proofs.PathLemmas.{any_of_first, births_alike, first_of_any}
use Rattle.descriptor_table.specs.Shows.{Shows, birth_at, is_of, same_door, shown}
use Rattle.descriptor_table.specs.Table.{TableState, IsSound, is_open, is_used}

-- ## What an object is

-- doors that are of one kind, and listeners of one port, are the same
pub one_door : (one other : Door) → same_door one other ≡ true → other ≡ one
one_door one other same = grind (arith, nat_tests, same)

-- what holds of each kind of object with each of its ends holds of an object with an end that it has
pub over_kind : (P : End → Content → Type 0) → ((file : List ℕ) → P part.Only (File file))
    → ((waiting : List ℕ) → P part.Read (Pipe waiting)) → ((waiting : List ℕ) → P part.Write (Pipe waiting))
    → ((side : Side) (p : PairState) → P (part.Socket side) (Pair p))
    → ((door : Door) → P (part.Door door) (DoorTo door)) → (e : End) (c : Content) → is_of e c ≡ true → P e c
over_kind P file reads writes pair door e (File bytes) has = let its : part.Only ≡ e = grind (arith, has) in
    subst (λ (x : End). P x (File bytes)) its (file bytes)
over_kind P file reads writes pair door e (Pair p) has = let its : part.Socket (side_of e) ≡ e = grind (arith, has) in
    subst (λ (x : End). P x (Pair p)) its (pair (side_of e) p)
over_kind P file reads writes pair door e (DoorTo other) has =
    let its : part.Door other ≡ e = grind (arith, nat_tests, has) in
    subst (λ (x : End). P x (DoorTo other)) its (door other)
over_kind P file reads writes pair door part.Read (Pipe waiting) has = reads waiting
over_kind P file reads writes pair door part.Write (Pipe waiting) has = writes waiting
over_kind P file reads writes pair door part.Only (Pipe waiting) has = absurd (false≢true has)
over_kind P file reads writes pair door (part.Socket side) (Pipe waiting) has = absurd (false≢true has)
over_kind P file reads writes pair door (part.Door one) (Pipe waiting) has = absurd (false≢true has)

-- ## Ends that are open

-- a description for which a test holds is there in both, or in neither
counted_shown : (t : TableState) (s : State) (p : Option object.Description → Bool) (q : Description → Bool)
    → AreSound t.descriptions → Shows t s → p None ≡ false
    → ((key : ℕ) (d : Description) → fin.get t.descriptions.by_key key ≡ Some d → p (Some (shown t d)) ≡ q d)
    → any_below s.next_description (λ key. p (fin.get s.descriptions key))
    ≡ not (count_by q (fin.values t.descriptions.by_key) == 0)
counted_shown t s p q all shows none alike =
    both_ways (any_below s.next_description (λ key. p (fin.get s.descriptions key)))
    (list_any q (fin.values t.descriptions.by_key)) to_table to_state
    ∙ sym (ap not (counted_none q (fin.values t.descriptions.by_key))
    ∙ not_not (list_any q (fin.values t.descriptions.by_key)))
  where
    not_not : (b : Bool) → not (not b) ≡ b
    not_not true = refl
    not_not false = refl

    some_by : (o : Option object.Description) → p o ≡ true → is_some o ≡ true
    some_by None holds = absurd (false≢true (sym none ∙ holds))
    some_by (Some d) holds = refl

    to_table : any_below s.next_description (λ key. p (fin.get s.descriptions key)) ≡ true
        → list_any q (fin.values t.descriptions.by_key) ≡ true
    to_table any =
        let at = any_of_first s.next_description (λ key. p (fin.get s.descriptions key)) any in
        let own = shows.described at.0 (some_by (fin.get s.descriptions at.0) at.2) in
        let found : fin.get s.descriptions at.0 ≡ Some (shown t own.1) = ap (fin.get s.descriptions) (sym own.3)
        ∙ shows.descriptions own.0 own.1 own.2 in
        let holds : q own.1 ≡ true = sym (alike own.0 own.1 own.2) ∙ ap p (sym found) ∙ at.2 in
        any_second q (fin.entries t.descriptions.by_key)
        ∙ any_of nat_cmp q t.descriptions.by_key own.0 own.1 own.2 holds

    to_state : list_any q (fin.values t.descriptions.by_key) ≡ true
        → any_below s.next_description (λ key. p (fin.get s.descriptions key)) ≡ true
    to_state any =
        let at = standing_in nat_cmp_total (λ (e : ℕ × Description). q e.1) t.descriptions.by_key
        (sym (any_second q (fin.entries t.descriptions.by_key)) ∙ any) in
        let below : at.1.birth < s.next_description = rw shows.next_description (all.born at.0 at.1 at.2) in
        first_of_any s.next_description (λ key. p (fin.get s.descriptions key)) at.1.birth below
        (ap p (shows.descriptions at.0 at.1 at.2) ∙ alike at.0 at.1 at.2 ∙ at.3)

-- two ends of one object are the same exactly when both count first, or neither
same_end : (c : Content) (a b : End) → is_of a c ≡ true → is_of b c ≡ true
    → is_end a b ≡ (if is_first b then is_first a else not (is_first a))
same_end c a b x y = grind (arith, x, y)

-- an end that an object has is open in the table exactly when the state has a description of it
pub has_end_shown : (t : TableState) (s : State) (node : ℕ) (which : End) → IsSound t → AreSound t.descriptions
    → Shows t s → is_used t node ≡ true → is_of which (content_of s (birth_at t node)) ≡ true
    → posix.has_end s (birth_at t node) which ≡ is_open t node which
has_end_shown t s node which sound all shows used its = by_first (is_first which) refl
  where
    alike : (first : Bool) → is_first which ≡ first → (key : ℕ) (d : Description)
        → fin.get t.descriptions.by_key key ≡ Some d
        → is_of_end (Some (shown t d)) (birth_at t node) which
        ≡ ((d.node == node) && (if first then is_first d.«end» else not (is_first d.«end»)))
    alike first is key d got =
        ap (λ (b : Bool). b && is_end d.«end» which)
        (births_alike t d.node node sound (sound.described_objects key d got) used) ∙ by_node (d.node == node) refl
      where
        by_node : (b : Bool) → (d.node == node) ≡ b
            → (b && is_end d.«end» which) ≡ (b && (if first then is_first d.«end» else not (is_first d.«end»)))
        by_node true same =
            same_end (content_of s (birth_at t node)) d.«end» which
            (ap (λ (n : ℕ). is_of d.«end» (content_of s (birth_at t n))) (sym (eqb-true d.node node same))
            ∙ shows.ends key d got) its
            ∙ ap (λ (b : Bool). if b then is_first d.«end» else not (is_first d.«end»)) is
        by_node false same = refl

    by_first : (first : Bool) → is_first which ≡ first
        → posix.has_end s (birth_at t node) which
        ≡ not ((if first then (ends_of t.descriptions node).0 else (ends_of t.descriptions node).1) == 0)
    by_first true is = counted_shown t s (λ o. is_of_end o (birth_at t node) which) (has_first_end node) all shows refl
        (alike true is)
    by_first false is = counted_shown t s (λ o. is_of_end o (birth_at t node) which) (has_second_end node) all shows
        refl (alike false is)
