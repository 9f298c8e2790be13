-- Each turn of each call leaves a state in which each description is of an end that its object has.
use Rattle.std.proofs.Common.{◌≡◌, ◌⊎◌, ℕ, ◌<◌, ◌||◌, pos, [], Bool, true, false, Option, Some, None, if◌then◌else◌}
use Rattle.std.proofs.Common.{inl, inr, ap, arith, refl, sym, subst, ◌∙◌}
use Rattle.std.proofs.lemmas.Bool.{cases_eq, false≢true}
use Rattle.std.proofs.lemmas.Option.{none-some, same_Some}
use Rattle.std.specs.Cmp.{nat_cmp_total}
use Rattle.std.specs.FinMap as fin
use Rattle.std.specs.FinMap.{FinMap, get-empty}
use Rattle.std.specs.Ordering.{nat_cmp}
use Rattle.std.specs.Prelude.{unwrap_or}
use Rattle.posix_terms.specs.Calls.{Call}
use Rattle.posix_terms.specs.declared.call.Access.{Access}
use Rattle.posix_terms.specs.declared.call.Access.TheVariants.{ReadOnly, ReadWrite, WriteOnly}
use Rattle.posix_terms.specs.declared.object.End.{End}
use Rattle.posix_terms.specs.declared.object.End.TheVariants as part
use Rattle.posix_terms.specs.declared.object.Side.TheVariants.{Side0, Side1}
use Rattle.sequential_object.specs.Acts.{Acted}
use Rattle.sequential_object.specs.Changes.{NewEnd, changed, closed, door_of, door_opened, flagged, opened_at}
use Rattle.sequential_object.specs.Changes.{with_ends, without_lost, without_name, renamed}
use Rattle.sequential_object.specs.Descriptors.{freed, has_description, has_descriptor, has_end, has_path, opened}
use Rattle.sequential_object.specs.Descriptors.{released, without_unused}
use Rattle.sequential_object.specs.Ends.{StartsMatched, StepsKeepMatched}
use Rattle.sequential_object.specs.Meant.{acted_at, description_of, holding, key_of, moved_to, offset_in, put, seen}
use Rattle.sequential_object.specs.Object.{Content, Description, DoorTo, File, Pair, Pipe, State, content_of}
use Rattle.sequential_object.specs.Object.{with_object}
use Rattle.sequential_object.specs.So.{Can, CanAct, CanEnds, ChangesWith, IsNamed, IsOpening}
use Rattle.sequential_object.specs.Step.{step}
use Rattle.sequential_object.specs.Streams.{new_pair}
use Rattle.sequential_object.specs.Unused.{is_a_file}
use Rattle.sequential_object.specs.Waiting.{EndsMatch, HasEnd}
use Rattle.sequential_object.specs.declared.decision.Act.{Act}
use Rattle.sequential_object.specs.declared.decision.Change.{Change}
use Rattle.sequential_object.specs.declared.decision.Change.TheVariants as change
use Rattle.sequential_object.specs.declared.decision.NewDescriptor.{NewDescriptor}
use Rattle.sequential_object.specs.declared.decision.NewEnds.{NewEnds}
use Rattle.sequential_object.proofs.Kept.{Keeps, after_act, step_keeps}
use Rattle.sequential_object.proofs.Maps.{insert_other, insert_same, inserted_is, left_is}
use Rattle.sequential_object.proofs.Seeing.{next_is}
use Rattle.sequential_object.proofs.Tidy.{IsTidy, tidy_of}
use Rattle.sequential_object.proofs.Unused.{Stays, is_alike, kind_stays, moved_objects, moved_tidy, named_file}
use Rattle.sequential_object.proofs.Unused.{opens_file, tidy_kept}
use Rattle.sequential_object.proofs.Whole.{IsWhole, some_is}

-- ## Ends

-- an object that is there has such an end
abbrev Has : State → ℕ → End → Type 0
Has s object which = (c : Content) → fin.get s.objects object ≡ Some c → HasEnd c which

-- the object of each description has its end, if it is there
abbrev IsMatched : State → Type 0
IsMatched s = (key : ℕ) (d : Description) → fin.get s.descriptions key ≡ Some d → Has s d.object d.«end»

-- where nothing unused is held, it is
matched_of : (s : State) → EndsMatch s → IsMatched s
matched_of s h key d at c there =
    subst (λ (x : Content). HasEnd x d.«end») (ap (λ (o : Option Content). unwrap_or o (File [])) there) (h key d at)

ends_match : (s : State) → IsWhole s → IsMatched s → EndsMatch s
ends_match s whole h key d at =
    let (c, there) = some_is (fin.get s.objects d.object) (whole.refers key d at) in
    subst (λ (x : Content). HasEnd x d.«end») (ap (λ (o : Option Content). unwrap_or o (File [])) (sym there))
    (h key d at c there)

pub starts_matched : StartsMatched
starts_matched key d at = absurd (none-some d (sym (get-empty nat_cmp key) ∙ at))

-- ## Descriptions

-- a description of an end that its object has
described_matched : (s : State) (key : ℕ) (x : Description) → Has s x.object x.«end» → IsMatched s
    → IsMatched (record s { descriptions = fin.insert s.descriptions key x })
described_matched s key x has h other d at = by_key (inserted_is nat_cmp_total s.descriptions key x other d at)
  where
    by_key : (x ≡ d) ⊎ (fin.get s.descriptions other ≡ Some d) → Has s d.object d.«end»
    by_key (inl is) = subst (λ (y : Description). Has s y.object y.«end») is has
    by_key (inr was) = h other d was

opened_matched : (s : State) (n object : ℕ) (which : End) (access : Access) (append nonblock : Bool)
    → Has s object which → IsMatched s → IsMatched (opened s n object which access append nonblock)
opened_matched s n object which access append nonblock has h =
    described_matched s s.next_description
    (record { object = object; «end» = which; access = access; offset = 0; append = append; nonblock = nonblock }) has h

-- its flags or its offset change
flags_matched : (s : State) (key : ℕ) (append nonblock : Bool) → IsMatched s
    → IsMatched (flagged s key append nonblock (fin.get s.descriptions key))
flags_matched s key append nonblock h = by_there (fin.get s.descriptions key) refl
  where
    by_there : (o : Option Description) → fin.get s.descriptions key ≡ o → IsMatched (flagged s key append nonblock o)
    by_there (Some d) at = described_matched s key (record d { append = append; nonblock = nonblock }) (h key d at) h
    by_there None at = h

moved_matched : (s : State) (offset key : Option ℕ) → IsMatched s
    → IsMatched (moved_to s offset key (description_of s key))
moved_matched s None key h = h
moved_matched s (Some to) None h = h
moved_matched s (Some to) (Some key) h = by_there (fin.get s.descriptions key) refl
  where
    by_there : (o : Option Description) → fin.get s.descriptions key ≡ o → IsMatched (moved_to s (Some to) (Some key) o)
    by_there (Some d) at = described_matched s key (record d { offset = to }) (h key d at) h
    by_there None at = h

-- ## What leaves the maps

unused_matched : (s : State) (object : ℕ) → IsMatched s → IsMatched (without_unused s object)
unused_matched s object h = by_test (has_description s object || has_path s object)
  where
    by_test : (b : Bool) → IsMatched (if b then s else record s { objects = fin.remove s.objects object })
    by_test true = h
    by_test false = λ key d at c there. h key d at c (left_is nat_cmp_total s.objects object d.object c there)

released_matched : (s : State) (key : ℕ) (d : Description) → IsMatched s → IsMatched (released s key d)
released_matched s key d h = by_test (has_descriptor s key)
  where
    left : State
    left = record s { descriptions = fin.remove s.descriptions key }

    by_test : (b : Bool) → IsMatched (if b then s else without_unused left d.object)
    by_test true = h
    by_test false =
        unused_matched left d.object (λ other e at. h other e (left_is nat_cmp_total s.descriptions key other e at))

closed_matched : (s : State) (n key : ℕ) (o : Option Description) → IsMatched s → IsMatched (closed s n key o)
closed_matched s n key (Some d) h = released_matched (freed s (pos n)) key d h
closed_matched s n key None h = h

lost_matched : (s : State) (lost : Option ℕ) → IsMatched s → IsMatched (without_lost s lost)
lost_matched s None h = h
lost_matched s (Some object) h = unused_matched s object h

-- ## What is made or opened

-- a file has its end
file_end : (c : Content) → is_a_file (Some c) ≡ true → HasEnd c part.Only
file_end (File bytes) file = refl
file_end c file = absurd (false≢true file)

open_matched : (s : State) (new : NewDescriptor) → IsNamed (seen s) new.object → IsTidy s → IsMatched s
    → IsMatched (opened_at s new part.Only)
open_matched s new named tidy h =
    opened_matched s new.number new.object part.Only new.access new.append new.nonblock
    (λ c there. file_end c (ap is_a_file (sym there) ∙ named_file s new.object tidy named)) h

-- a new object has what its content has, and no description is of it yet
new_has : (s : State) (c : Content) (which : End) → HasEnd c which → Has (with_object s c) s.next_object which
new_has s c which has x there =
    subst (λ (y : Content). HasEnd y which) (same_Some c x (sym (insert_same s.objects s.next_object c) ∙ there)) has

object_matched : (s : State) (c : Content) → IsTidy s → IsMatched s → IsMatched (with_object s c)
object_matched s c tidy h key d at x there =
    elim (cases_eq d.object s.next_object) [
      | inl is ↦
          let whole = tidy.whole in
          let its = some_is (fin.get s.objects d.object) (whole.refers key d at) in
          let below : d.object < s.next_object = whole.made d.object its.0 its.1 in
          absurd (omega arith)
      | inr apart ↦ h key d at x (sym (insert_other s.objects s.next_object c d.object apart) ∙ there)
    ]

-- a description of a new object
made_matched : (s : State) (c : Content) (new : NewDescriptor) (which : End)
    → (let v = seen s in v.next ≡ Some new.object) → HasEnd c which → IsTidy s → IsMatched s
    → IsMatched (opened_at (with_object s c) new which)
made_matched s c new which next has tidy h =
    subst (λ (object : ℕ). IsMatched (opened_at (with_object s c) (record new { object = object }) which))
    (sym (next_is s new.object next))
    (opened_matched (with_object s c) new.number s.next_object which new.access new.append new.nonblock
    (new_has s c which has) (object_matched s c tidy h))

-- and two of one
ends_matched : (s : State) (c : Content) (one other : NewEnd) (new : NewEnds) → CanEnds (seen s) new
    → HasEnd c one.which → HasEnd c other.which → IsTidy s → IsMatched s → IsMatched (with_ends s c one other new)
ends_matched s c one other new can has more tidy h =
    subst (λ (object : ℕ). IsMatched (with_ends s c one other (record new { object = object })))
    (sym (next_is s new.object can.next))
    (let first : State = opened (with_object s c) new.first s.next_object one.which one.access false false in
    opened_matched first new.second s.next_object other.which other.access false false (new_has s c other.which more)
    (opened_matched (with_object s c) new.first s.next_object one.which one.access false false
    (new_has s c one.which has) (object_matched s c tidy h)))

-- ## All changes

change_matched : (s : State) (c : Call) (x : Change) → Can (seen s) c x → IsTidy s → IsMatched s
    → IsMatched (changed s c x)
change_matched s c change.Nothing can tidy h = h
change_matched s c (change.Share n key) can tidy h = h
change_matched s c (change.Close n key) can tidy h = closed_matched s n key (fin.get s.descriptions key) h
change_matched s c (change.Replace n old_key key) can tidy h =
    closed_matched s n old_key (fin.get s.descriptions old_key) h
change_matched s c (change.SetFlags key append nonblock) can tidy h = flags_matched s key append nonblock h
change_matched s c (change.AddFile object) can tidy h = h
change_matched s c change.AddDirectory can tidy h = h
change_matched s c (change.RemoveFile object) can tidy h = unused_matched (without_name s c) object h
change_matched s c change.RemoveDirectory can tidy h = h
change_matched s c (change.Rename object lost) can tidy h = lost_matched (renamed s c object) lost h
change_matched s c (change.OpenFile new) can tidy h = open_matched s new can.1 tidy h
change_matched s c (change.MakeFile new) can tidy h = made_matched s (File []) new part.Only can.1 refl tidy h
change_matched s c (change.MakePipe new) can tidy h =
    ends_matched s (Pipe []) (record { which = part.Read; access = ReadOnly })
    (record { which = part.Write; access = WriteOnly }) new can (inl refl) (inr refl) tidy h
change_matched s c (change.MakeSockets new) can tidy h =
    ends_matched s (Pair new_pair) (record { which = part.Socket Side0; access = ReadWrite })
    (record { which = part.Socket Side1; access = ReadWrite }) new can (Side0, refl) (Side1, refl) tidy h

door_matched : (s : State) (c : Call) (listener : Option ℕ) (new : NewDescriptor) (value : ℕ)
    → IsOpening (seen s) c listener new → IsTidy s → IsMatched s → IsMatched (door_opened s c new value)
door_matched s c listener new value can tidy h =
    made_matched s (DoorTo (door_of c value)) new (part.Door (door_of c value)) can.next refl tidy h

-- ## The state after an act

-- what stays a file, a pipe or a pair has the ends that it had
alike_end : (old new : Content) (which : End) → is_alike old new ≡ true → HasEnd old which → HasEnd new which
alike_end (File old) (File new) which alike has = has
alike_end (Pipe old) (Pipe new) which alike has = has
alike_end (Pair old) (Pair new) which alike has = has
alike_end old new which alike has = absurd (false≢true alike)

held_matched : (s : State) (object : ℕ) (new : Option Content) → Stays (content_of s object) new → IsTidy s
    → IsMatched s → IsMatched (holding s object new)
held_matched s object None stays tidy h key d at x there = h key d at x there
held_matched s object (Some c) stays tidy h key d at x there =
    elim (cases_eq d.object object) [
      | inl is ↦
          let (old, was) = some_is (fin.get s.objects d.object) (let whole = tidy.whole in whole.refers key d at) in
          let own : content_of s object ≡ old =
          ap (λ (o : Option Content). unwrap_or o (File [])) (ap (fin.get s.objects) (sym is) ∙ was) in
          let same : c ≡ x = same_Some c x
          (sym (insert_same s.objects object c) ∙ ap (fin.get (fin.insert s.objects object c)) (sym is) ∙ there) in
          subst (λ (y : Content). HasEnd y d.«end») same
          (alike_end old c d.«end» (subst (λ (y : Content). is_alike y c ≡ true) own stays) (h key d at old was))
      | inr apart ↦ h key d at x (sym (insert_other s.objects object c d.object apart) ∙ there)
    ]

put_matched : (s : State) (object : ℕ) (a : Act) (done : Acted) → Stays (content_of s object) done.content → IsTidy s
    → IsMatched s → IsMatched (put s object a done)
put_matched s object a done stays tidy h =
    let d = description_of s (key_of a) in
    held_matched (moved_to s done.offset (key_of a) d) object done.content
    (subst (λ (m : FinMap nat_cmp Content). Stays (unwrap_or (fin.get m object) (File [])) done.content)
    (sym (moved_objects s done.offset (key_of a) d)) stays)
    (moved_tidy s done.offset (key_of a) tidy)
    (moved_matched s done.offset (key_of a) h)

act_matched : (s : State) (c : Call) (object : ℕ) (a : Act) (x : Change) → CanAct (seen s) c object a
    → ChangesWith object a x → IsTidy s → (let after : State = changed s c x in
    IsTidy after → IsMatched after → IsMatched (after_act after object a c))
act_matched s c object a x can with tidy still h =
    let after : State = changed s c x in
    put_matched after object a (acted_at after object a c)
    (kind_stays (has_end after object) a c (content_of after object) (offset_in (description_of after (key_of a)))
    (opens_file s c object a x can with tidy))
    still h

-- ## The step

matched_kept : Keeps (λ (s : State). IsTidy s × IsMatched s)
matched_kept =
    record {
      by_change = λ s c x can h. (tidy_kept.by_change s c x can h.0, change_matched s c x can h.0 h.1);
      by_act = λ s c object a x can with h after. (
        tidy_kept.by_act s c object a x can with h.0 after.0,
        act_matched s c object a x can with h.0 after.0 after.1,
      );
      by_door = λ s c listener new value can h.
          (tidy_kept.by_door s c listener new value can h.0, door_matched s c listener new value can h.0 h.1);
    }

pub steps_keep_matched : StepsKeepMatched
steps_keep_matched settings s c outcome carried unused h =
    let kept = step_keeps (λ (s : State). IsTidy s × IsMatched s) matched_kept settings s c outcome carried
    (tidy_of s unused, matched_of s h) in
    ends_match (step settings s c outcome carried).after (let tidy : IsTidy _ = kept.0 in tidy.whole) kept.1
