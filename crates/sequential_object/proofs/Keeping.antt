-- Each change of a state that holds nothing unused leaves one that does not.
use Rattle.std.proofs.Common.{◌≡◌, ◌⊎◌, ℕ, ◌+◌, ◌<◌, ◌≤◌, ◌==◌, ◌||◌, ℤ, pos, negsuc, List, [], ◌∷◌, Bool, true, false}
use Rattle.std.proofs.Common.{Option, Some, None, is_some, Ok, if◌then◌else◌, inl, inr, length, ap, arith, refl, sym}
use Rattle.std.proofs.Common.{subst, ◌∙◌}
use Rattle.std.proofs.lemmas.Bool.{cases_eq, true≢false}
use Rattle.std.proofs.lemmas.Bool.Decides.{nat_tests}
use Rattle.std.proofs.lemmas.Option.{none-some, same_Some}
use Rattle.std.specs.FinMap as fin
use Rattle.std.specs.FinMap.{FinMap}
use Rattle.std.specs.Option.{option_map}
use Rattle.std.specs.Ordering.{nat_cmp}
use Rattle.std.specs.Prelude.{◌≢◌, nat_lt}
use Rattle.posix_terms.specs.Calls.{Call}
use Rattle.posix_terms.specs.declared.call.Access.TheVariants.{ReadOnly, ReadWrite, WriteOnly}
use Rattle.posix_terms.specs.declared.limits.TheConstants.Limits as limit
use Rattle.posix_terms.specs.declared.object.End.TheVariants as part
use Rattle.posix_terms.specs.declared.object.Side.TheVariants.{Side0, Side1}
use Rattle.sequential_object.specs.Changes.{NewEnd, changed, closed, door_of, door_opened, flagged, old_path_of}
use Rattle.sequential_object.specs.Changes.{opened_at, path_of, with_ends, without_lost, without_name}
use Rattle.sequential_object.specs.Descriptors.{freed, has_description, has_descriptor, has_path, opened, released}
use Rattle.sequential_object.specs.Descriptors.{with_file}
use Rattle.sequential_object.specs.Duplicates.{shared}
use Rattle.sequential_object.specs.Meant.{seen}
use Rattle.sequential_object.specs.Names.{PathMap, moved, with_paths}
use Rattle.sequential_object.specs.Object.{Content, Description, Directory, DoorTo, File, FileNode, Node, Pair, Pipe}
use Rattle.sequential_object.specs.Object.{State, with_object}
use Rattle.sequential_object.specs.Paths.{components_of, node_at}
use Rattle.sequential_object.specs.So.{Can, CanAdd, CanEnds, IsFree as LowestIs, IsKey, IsNamed, IsOpening, IsOtherKey}
use Rattle.sequential_object.specs.So.{IsShut, Refers}
use Rattle.sequential_object.specs.Streams.{new_pair}
use Rattle.sequential_object.specs.declared.decision.Change.{Change}
use Rattle.sequential_object.specs.declared.decision.Change.TheVariants as change
use Rattle.sequential_object.specs.declared.decision.NewDescriptor.{NewDescriptor}
use Rattle.sequential_object.specs.declared.decision.NewEnds.{NewEnds}
use Rattle.sequential_object.proofs.Maps.{insert_has, insert_keeps, insert_other, insert_same, inserted_is, left_is}
use Rattle.sequential_object.proofs.Maps.{paths_total, remove_keeps, remove_other, remove_same}
use Rattle.sequential_object.proofs.Seeing.{Found, file_there, found_of, free_from, named_at, next_is, no_node}
use Rattle.sequential_object.proofs.Seeing.{not_shown, shown_by}
use Rattle.sequential_object.proofs.Tidy.{IsFree, IsTidy, IsTidyBut, Named, but_one, file_tidy, freed_tidy, object_tidy}
use Rattle.sequential_object.proofs.Tidy.{opened_tidy, own_tidy, paths_tidy, released_tidy, shared_tidy, unnamed_tidy}
use Rattle.sequential_object.proofs.Tidy.{unused_tidy}
use Rattle.sequential_object.proofs.Whole.{NamesKnown, file_is_there}

-- ## Descriptors

next_there : (s : State) (c : Content) → is_some (fin.get (fin.insert s.objects s.next_object c) s.next_object) ≡ true
next_there s c = ap (λ (o : Option Content). is_some o) (insert_same s.objects s.next_object c)

freed_there : (s : State) (descriptor : ℤ) (key : ℕ) (d : Description) → fin.get s.descriptions key ≡ Some d
    → (let after = freed s descriptor in fin.get after.descriptions key ≡ Some d)
freed_there s (pos n) key d there = there
freed_there s (negsuc n) key d there = there

closed_tidy : (s : State) (n key : ℕ) (d : Description) → Found s (pos n) key d → IsTidy s
    → IsTidy (released (freed s (pos n)) key d)
closed_tidy s n key d its h = released_tidy (freed s (pos n)) key d (freed_there s (pos n) key d its.there)
    (freed_tidy s (pos n) key its.at h)

released_descriptors : (s : State) (key : ℕ) (d : Description)
    → (let after = released s key d in after.descriptors) ≡ s.descriptors
released_descriptors s key d = by_tests (has_descriptor s key) (has_description left d.object || has_path left d.object)
  where
    left : State
    left = record s { descriptions = fin.remove s.descriptions key }

    by_tests : (a b : Bool)
        → (let after : State = if a then s else
        (if b then left else record left { objects = fin.remove left.objects d.object })
        in after.descriptors) ≡ s.descriptors
    by_tests true b = refl
    by_tests false true = refl
    by_tests false false = refl

-- number n refers to a description, and is found so
refers_found : (s : State) (n key : ℕ) → Refers (seen s) n key → (d : Description) × Found s (pos n) key d
refers_found s n key r =
    let its = shown_by s (pos n) r.at r.found in
    subst (λ (k : ℕ). (d : Description) × Found s (pos n) k d) r.key_is (its.description, its.found)

key_there : (s : State) (key : ℕ) → IsKey (seen s) key → (d : Description) × (fin.get s.descriptions key ≡ Some d)
key_there s key k =
    let its = shown_by s k.found.descriptor k.at k.found.found in
    subst (λ (k : ℕ). (d : Description) × (fin.get s.descriptions k ≡ Some d)) k.key_is
    (its.description, its.found.there)

number_free : (s : State) (n : ℕ) → LowestIs (seen s) n → IsFree s n
number_free s n f = let its = free_from s f.least n f.found in its.0

-- one more descriptor of a description
share_tidy : (s : State) (n key : ℕ) → (LowestIs (seen s) n ⊎ IsShut (seen s) n) → IsKey (seen s) key → IsTidy s
    → IsTidy (shared s n key)
share_tidy s n key number k h =
    let there = key_there s key k in
    shared_tidy s n key (free number) (below number) (ap (λ (o : Option Description). is_some o) there.1) h
  where
    free : (LowestIs (seen s) n ⊎ IsShut (seen s) n) → (other : ℕ) (d : Description)
        → fin.get s.descriptions other ≡ Some d → fin.get s.descriptors n ≡ Some other → ⊥
    free (inl f) other d there at = let its = number_free s n f in none-some other (sym its.free ∙ at)
    free (inr shut) other d there at = not_shown s (pos n) shut.error shut.found (other, d)
        (found_of s n other d at there)

    below : (LowestIs (seen s) n ⊎ IsShut (seen s) n) → n < limit.DESCRIPTORS
    below (inl f) = let its = number_free s n f in its.below
    below (inr shut) = let inside : nat_lt n limit.DESCRIPTORS ≡ true = shut.inside in grind (arith, nat_tests, inside)

-- a number is closed
close_tidy : (s : State) (n key : ℕ) → Refers (seen s) n key → IsTidy s
    → IsTidy (closed s n key (fin.get s.descriptions key))
close_tidy s n key r h =
    let (d, its) = refers_found s n key r in
    subst (λ (o : Option Description). IsTidy (closed s n key o)) (sym its.there) (closed_tidy s n key d its h)

-- and then refers to the description of another number
replace_tidy : (s : State) (n old_key key : ℕ) → Refers (seen s) n old_key → IsOtherKey (seen s) n key
    → n < limit.DESCRIPTORS → IsTidy s
    → IsTidy (shared (closed s n old_key (fin.get s.descriptions old_key)) n key)
replace_tidy s n old_key key r other below h =
    let (d, its) = refers_found s n old_key r in
    let whole = shown_by s other.descriptor other.at other.found in
    subst (λ (o : Option Description). IsTidy (shared (closed s n old_key o) n key)) (sym its.there)
    (by_number other.descriptor (subst (λ (k : ℕ). Found s other.descriptor k whole.description) other.key_is
    whole.found) other.apart d its)
  where
    by_number : (descriptor : ℤ) {e : Description} → Found s descriptor key e → descriptor ≢ pos n → (d : Description)
        → Found s (pos n) old_key d
        → IsTidy (shared (released (freed s (pos n)) old_key d) n key)
    by_number (negsuc m) found apart d its = absurd (none-some key found.at)
    by_number (pos m) found apart d its =
        let after = released (freed s (pos n)) old_key d in
        let tidy = closed_tidy s n old_key d its h in
        let same = released_descriptors (freed s (pos n)) old_key d in
        let own : m ≡ n → ⊥ = λ is. apart (ap pos is) in
        shared_tidy after n key
        (λ other d there at. none-some other
        (sym (ap (λ (x : FinMap nat_cmp ℕ). fin.get x n) same ∙ remove_same s.descriptors n) ∙ at))
        below
        (let whole = tidy.whole in whole.opens m key (ap (λ (x : FinMap nat_cmp ℕ). fin.get x m) same
        ∙ remove_other s.descriptors n m own ∙ found.at))
        tidy

-- ## Names

same_file : (a b : ℕ) → Some (FileNode a) ≡ Some (FileNode b) → a ≡ b
same_file a b h = cc

same_node : (a b : ℕ) → FileNode a ≡ FileNode b → a ≡ b
same_node a b e = cc

-- a file that a path names
pub is_named : (s : State) (object : ℕ) → IsNamed (seen s) object → Named s.paths object
is_named s object n =
    let components = components_of n.path in
    record {
      path = components;
      refers =
          file_there s.paths components object (named_at s n.path (Some (FileNode object)) n.found);
    }

-- a new name is that of a directory, or of a file that has a name
abbrev AlreadyNamed : PathMap → Node → Type 0
AlreadyNamed paths node = (object : ℕ) → node ≡ FileNode object → (before : List (List ℕ))
    × (fin.get paths before ≡ Some (FileNode object))

add_tidy : (s : State) (path : List ℕ) (node : Node) → CanAdd (seen s) path → AlreadyNamed s.paths node → IsTidy s
    → IsTidy (with_paths s (fin.insert s.paths (components_of path) node))
add_tidy s path node can known h =
    let components = components_of path in
    let free = no_node s.paths components (named_at s path None can.missing) in
    paths_tidy s (fin.insert s.paths components node)
    (λ object n. record {
      path = n.path;
      refers = insert_keeps paths_total s.paths components node n.path (FileNode object)
          (λ at. none-some (FileNode object) (sym free ∙ at)) n.refers;
    })
    (λ q object is. by_name q object (inserted_is paths_total s.paths components node q (FileNode object) is))
    h
  where
    by_name : (q : List (List ℕ)) (object : ℕ) → (node ≡ FileNode object) ⊎ (fin.get s.paths q ≡ Some (FileNode object))
        → (before : List (List ℕ)) × (fin.get s.paths before ≡ Some (FileNode object))
    by_name q object (inl is) = known object is
    by_name q object (inr at) = (q, at)

-- the path of a call names this file
file_at : (s : State) (path : List ℕ) (object : ℕ) → (let v = seen s in v.named path ≡ Ok (Some (FileNode object)))
    → fin.get s.paths (components_of path) ≡ Some (FileNode object)
file_at s path object is = file_there s.paths (components_of path) object (named_at s path (Some (FileNode object)) is)

remove_tidy : (s : State) (path : List ℕ) (object : ℕ) → (let v = seen s in v.named path ≡ Ok (Some (FileNode object)))
    → IsTidy s
    → IsTidyBut object (with_paths s (fin.remove s.paths (components_of path)))
remove_tidy s path object is h =
    let components = components_of path in
    let its = file_at s path object is in
    unnamed_tidy s (fin.remove s.paths components) object
    (λ other apart n. record {
      path = n.path;
      refers = remove_keeps paths_total s.paths components n.path (FileNode other)
          (λ at. apart (same_file other object (sym at ∙ its))) n.refers;
    })
    (λ q other at. (q, left_is paths_total s.paths components q (FileNode other) at))
    h

remove_dir_tidy : (s : State) (components : List (List ℕ)) → node_at s.paths components ≡ Some Directory
    → (length components == 0) ≡ false → IsTidy s
    → IsTidy (with_paths s (fin.remove s.paths components))
remove_dir_tidy s [] is some h = absurd (true≢false some)
remove_dir_tidy s (name ∷ names) is some h =
    let components : List (List ℕ) = name ∷ names in
    paths_tidy s (fin.remove s.paths components)
    (λ object n. record {
      path = n.path;
      refers = remove_keeps paths_total s.paths components n.path (FileNode object)
          (λ other. no_file object (sym is ∙ other)) n.refers;
    })
    (λ q object at. (q, left_is paths_total s.paths components q (FileNode object) at))
    h
  where
    no_file : (object : ℕ) → Some Directory ≡ Some (FileNode object) → ⊥
    no_file object e = cc

-- a renaming by which each file keeps a name, but the one that lost it
record Renames (paths : PathMap) (after : PathMap) (lost : Option ℕ) : Type 0 where
  keeps : (other : ℕ) → (lost ≡ Some other → ⊥) → Named paths other → Named after other
  known : NamesKnown paths after

moved_renames : (paths : PathMap) (old new : List (List ℕ)) (object : ℕ) (lost : Option ℕ)
    → fin.get paths old ≡ Some (FileNode object)
    → node_at paths new ≡ option_map FileNode lost → Renames paths (moved paths old new object) lost
moved_renames paths old new object lost its there =
    record {
      keeps = λ other stays n. elim (cases_eq other object) [
        | inl own ↦ record {
          path = new;
          refers = insert_has paths_total left new (FileNode object)
              ∙ ap (λ (k : ℕ). Some (FileNode k)) (sym own);
        }
        | inr not_own ↦ record {
          path = n.path;
          refers =
              insert_keeps paths_total left new (FileNode object) n.path (FileNode other)
              (λ at. apart lost there other stays (left_is paths_total paths old new (FileNode other) at))
              (remove_keeps paths_total paths old n.path (FileNode other)
              (λ at. not_own (same_file other object (sym at ∙ its))) n.refers);
        }
      ];
      known = λ q other is. by_name q other (inserted_is paths_total left new (FileNode object) q (FileNode other) is);
    }
  where
    left : PathMap
    left = fin.remove paths old

    apart : (lost : Option ℕ) → node_at paths new ≡ option_map FileNode lost → (other : ℕ) → (lost ≡ Some other → ⊥)
        → fin.get paths new ≡ Some (FileNode other) → ⊥
    apart None there other stays at = none-some (FileNode other) (sym (no_node paths new there) ∙ at)
    apart (Some o) there other stays at = stays (ap Some (same_file o other (sym (file_there paths new o there) ∙ at)))

    by_name : (q : List (List ℕ)) (other : ℕ) → (FileNode object ≡ FileNode other)
        ⊎ (fin.get left q ≡ Some (FileNode other))
        → (before : List (List ℕ)) × (fin.get paths before ≡ Some (FileNode other))
    by_name q other (inl own) = (old, its ∙ ap Some own)
    by_name q other (inr at) = (q, left_is paths_total paths old q (FileNode other) at)

lost_tidy : (s : State) (paths : PathMap) (lost : Option ℕ) → Renames s.paths paths lost → IsTidy s
    → IsTidy (without_lost (with_paths s paths) lost)
lost_tidy s paths None r h = paths_tidy s paths (λ other n. r.keeps other (λ is. none-some other is) n) r.known h
lost_tidy s paths (Some object) r h =
    unused_tidy (with_paths s paths) object
    (unnamed_tidy s paths object (λ other apart n. r.keeps other (λ is. apart (sym (same_Some object other is))) n)
    r.known h)

-- ## New descriptors

ends_tidy : (s : State) (c : Content) (one other : NewEnd) (new : NewEnds) → CanEnds (seen s) new → IsTidy s
    → IsTidy (with_ends s c one other new)
ends_tidy s c one other new can h =
    subst (λ (object : ℕ). IsTidy (with_ends s c one other (record new { object = object })))
    (sym (next_is s new.object can.next))
    (let first = free_from s 0 new.first can.first in
    let second = free_from s (new.first + 1) new.second can.second in
    let more : new.first + 1 ≤ new.second = second.1 in
    let apart : new.second ≡ new.first → ⊥ = λ same. omega arith in
    let a : IsFree s new.first = first.0 in
    let b : IsFree s new.second = second.0 in
    let between : State = opened (with_object s c) new.first s.next_object one.which one.access false false in
    let tidy = opened_tidy (with_object s c) new.first s.next_object one.which one.access false false
    (record { free = a.free; below = a.below }) (next_there s c) (object_tidy s c h) in
    opened_tidy between new.second s.next_object other.which other.access false false
    (record {
      free = insert_other s.descriptors new.first s.next_description new.second apart ∙ b.free;
      below = b.below;
    })
    (next_there s c) (but_one between s.next_object tidy))

open_tidy : (s : State) (new : NewDescriptor) → LowestIs (seen s) new.number → IsNamed (seen s) new.object → IsTidy s
    → IsTidy (opened_at s new part.Only)
open_tidy s new number named h =
    let n = is_named s new.object named in
    opened_tidy s new.number new.object part.Only new.access new.append new.nonblock (number_free s new.number number)
    (file_is_there (fin.get s.objects new.object) (let whole = h.whole in whole.names n.path new.object n.refers))
    (but_one s new.object h)

make_tidy : (s : State) (path : List ℕ) (new : NewDescriptor) → LowestIs (seen s) new.number
    → (let v = seen s in v.next ≡ Some new.object) → CanAdd (seen s) path → IsTidy s
    → IsTidy (opened_at (with_file s (components_of path)) new part.Only)
make_tidy s path new number next can h =
    subst (λ (object : ℕ). IsTidy (opened_at (with_file s (components_of path)) (record new { object = object })
    part.Only)) (sym (next_is s new.object next))
    (let f = number_free s new.number number in
    opened_tidy (with_file s (components_of path)) new.number s.next_object part.Only new.access new.append new.nonblock
    (record { free = f.free; below = f.below }) (next_there s (File []))
    (file_tidy s (components_of path) (no_node s.paths (components_of path) (named_at s path None can.missing)) h))

pub door_tidy : (s : State) (c : Call) (listener : Option ℕ) (new : NewDescriptor) (value : ℕ)
    → IsOpening (seen s) c listener new → IsTidy s → IsTidy (door_opened s c new value)
door_tidy s c listener new value can h =
    subst (λ (object : ℕ). IsTidy (door_opened s c (record new { object = object }) value))
    (sym (next_is s new.object can.next))
    (let f = number_free s new.number can.number in
    let x : Content = DoorTo (door_of c value) in
    opened_tidy (with_object s x) new.number s.next_object (part.Door (door_of c value)) new.access new.append
    new.nonblock (record { free = f.free; below = f.below }) (next_there s x) (object_tidy s x h))

-- ## All changes

flags_tidy : (s : State) (key : ℕ) (append nonblock : Bool) → IsKey (seen s) key → IsTidy s
    → IsTidy (flagged s key append nonblock (fin.get s.descriptions key))
flags_tidy s key append nonblock k h =
    let (d, there) = key_there s key k in
    subst (λ (o : Option Description). IsTidy (flagged s key append nonblock o)) (sym there)
    (own_tidy s key d (record d { append = append; nonblock = nonblock }) there refl h)

pub change_tidy : (s : State) (c : Call) (x : Change) → Can (seen s) c x → IsTidy s → IsTidy (changed s c x)
change_tidy s c change.Nothing can h = h
change_tidy s c (change.Share n key) can h = share_tidy s n key can.0 can.1 h
change_tidy s c (change.Close n key) can h = close_tidy s n key can h
change_tidy s c (change.Replace n old_key key) can h =
    let (d, its) = refers_found s n old_key can.0 in
    replace_tidy s n old_key key can.0 can.1 (let whole = h.whole in whole.within n old_key its.at) h
change_tidy s c (change.SetFlags key append nonblock) can h = flags_tidy s key append nonblock can h
change_tidy s c (change.AddFile object) can h =
    let n = is_named s object can.0 in
    add_tidy s (path_of c) (FileNode object) can.1
    (λ other is. (n.path, n.refers ∙ ap (λ (k : ℕ). Some (FileNode k)) (same_node object other is))) h
change_tidy s c change.AddDirectory can h = add_tidy s (path_of c) Directory can (λ object e. cc) h
change_tidy s c (change.RemoveFile object) can h =
    unused_tidy (without_name s c) object (remove_tidy s (path_of c) object can h)
change_tidy s c change.RemoveDirectory can h =
    remove_dir_tidy s (components_of (path_of c)) (named_at s (path_of c) (Some Directory) can.0) can.1 h
change_tidy s c (change.Rename object lost) can h =
    lost_tidy s (moved s.paths (components_of (old_path_of c)) (components_of (path_of c)) object) lost
    (moved_renames s.paths (components_of (old_path_of c)) (components_of (path_of c)) object lost
    (file_at s (old_path_of c) object can.0) (named_at s (path_of c) (option_map (λ other. FileNode other) lost) can.1))
    h
change_tidy s c (change.OpenFile new) can h = open_tidy s new can.0 can.1 h
change_tidy s c (change.MakeFile new) can h = make_tidy s (path_of c) new can.0 can.1 can.2 h
change_tidy s c (change.MakePipe new) can h =
    ends_tidy s (Pipe []) (record { which = part.Read; access = ReadOnly })
    (record { which = part.Write; access = WriteOnly }) new can h
change_tidy s c (change.MakeSockets new) can h =
    ends_tidy s (Pair new_pair) (record { which = part.Socket Side0; access = ReadWrite })
    (record { which = part.Socket Side1; access = ReadWrite }) new can h
