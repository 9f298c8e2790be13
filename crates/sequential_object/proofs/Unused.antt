-- Each turn of each call leaves a state that holds nothing unused.
use Rattle.std.proofs.Common.{◌≡◌, ℕ, List, [], Bool, true, false, Option, Some, None, is_some, inl, inr, ap, arith}
use Rattle.std.proofs.Common.{refl, sym, subst, ◌∙◌}
use Rattle.std.proofs.lemmas.Bool.{false≢true}
use Rattle.std.specs.FinMap as fin
use Rattle.std.specs.Prelude.{IfSome, unwrap_or}
use Rattle.std.specs.FinMap.{FinMap}
use Rattle.std.specs.Ordering.{nat_cmp}
use Rattle.posix_terms.specs.Calls.{Call}
use Rattle.posix_terms.specs.declared.call.Call.TheVariants as call
use Rattle.posix_terms.specs.declared.object.End.{End}
use Rattle.sequential_object.specs.Acts.{Acted, acted, read_acted, write_acted}
use Rattle.sequential_object.specs.Changes.{changed}
use Rattle.sequential_object.specs.Descriptors.{has_end}
use Rattle.sequential_object.specs.Meant.{acted_at, description_of, holding, key_of, moved_to, offset_in, put, seen}
use Rattle.sequential_object.specs.Object.{Content, Description, File, Pair, Pipe, State, content_of}
use Rattle.sequential_object.specs.So.{CanAct, ChangesWith, IsNamed, IsSeen}
use Rattle.sequential_object.specs.Step.{step}
use Rattle.sequential_object.specs.Unused.{StepsKeepTidy, is_a_file}
use Rattle.sequential_object.specs.declared.decision.Act.{Act}
use Rattle.sequential_object.specs.declared.decision.Act.TheVariants as act
use Rattle.sequential_object.specs.declared.decision.Change.{Change}
use Rattle.sequential_object.specs.declared.decision.Seen.{Seen}
use Rattle.sequential_object.proofs.Keeping.{change_tidy, door_tidy, is_named}
use Rattle.sequential_object.proofs.Kept.{Keeps, after_act, step_keeps}
use Rattle.sequential_object.proofs.Seeing.{shown_by}
use Rattle.sequential_object.proofs.Tidy.{IsTidy, Used, content_tidy, nothing_unused, own_tidy, tidy_of}
use Rattle.sequential_object.proofs.Whole.{file_is_there, same_kind, some_is}

-- ## What an act leaves in its object

-- a file, a pipe or a pair stays one
abbrev pub is_alike : Content → Content → Bool
is_alike (File old) (File new) = true
is_alike (Pipe old) (Pipe new) = true
is_alike (Pair old) (Pair new) = true
is_alike old new = false

abbrev pub Stays : Content → Option Content → Type 0
Stays content new = IfSome new (λ c. is_alike content c ≡ true)

-- so a file stays one
alike_file : (old new : Content) → is_alike old new ≡ true → is_a_file (Some old) ≡ true → is_a_file (Some new) ≡ true
alike_file (File old) (File new) alike file = refl
alike_file (Pipe old) (Pipe new) alike file = file
alike_file (Pair old) (Pair new) alike file = file
alike_file old new alike file = absurd (false≢true alike)

abbrev KindStays : Content → Acted → Type 0
KindStays content done = Stays content done.content

-- what opens a file opens one
abbrev pub OpensFile : Act → Content → Type 0
OpensFile (act.Open n cut) content = is_a_file (Some content) ≡ true
OpensFile a content = Unit {0}

read_stays : (has_end : End → Bool) (from : Seen) (count : ℕ) (content : Content) (offset : ℕ)
    → KindStays content (read_acted has_end from count content offset)
read_stays has_end from count content offset = grind arith

write_stays : (has_end : End → Bool) (to : Seen) (bytes : List ℕ) (before : ℕ) (content : Content) (offset : ℕ)
    → KindStays content (write_acted has_end to bytes before content offset)
write_stays has_end to bytes before content offset = grind arith

pwrite_stays : (has_end : End → Bool) (start : ℕ) (c : Call) (content : Content) (offset : ℕ)
    → KindStays content (acted has_end (act.Pwrite start) c content offset)
pwrite_stays has_end start c content offset = grind arith

lseek_stays : (has_end : End → Bool) (at : Seen) (c : Call) (content : Content) (offset : ℕ)
    → KindStays content (acted has_end (act.Lseek at) c content offset)
lseek_stays has_end at c content offset = grind arith

pub kind_stays : (has_end : End → Bool) (a : Act) (c : Call) (content : Content) (offset : ℕ) → OpensFile a content
    → KindStays content (acted has_end a c content offset)
kind_stays has_end (act.Open n true) c (File file) offset opens = refl
kind_stays has_end (act.Open n true) c content offset opens = absurd (false≢true opens)
kind_stays has_end (act.Open n false) c content offset opens = tt
kind_stays has_end (act.Create n) c content offset opens = tt
kind_stays has_end act.Release c content offset opens = tt
kind_stays has_end (act.Read from count) c content offset opens = read_stays has_end from count content offset
kind_stays has_end (act.Write to before) (call.Write descriptor bytes) content offset opens =
    write_stays has_end to bytes before content offset
kind_stays has_end (act.Write to before) c content offset opens = tt
kind_stays has_end (act.Pread count position) c (File file) offset opens = tt
kind_stays has_end (act.Pread count position) c content offset opens = tt
kind_stays has_end (act.Pwrite start) c content offset opens = pwrite_stays has_end start c content offset
kind_stays has_end (act.Lseek at) c content offset opens = lseek_stays has_end at c content offset
kind_stays has_end (act.Ftruncate size) c (File file) offset opens = refl
kind_stays has_end (act.Ftruncate size) c content offset opens = tt
kind_stays has_end (act.Fstat links) c (File file) offset opens = tt
kind_stays has_end (act.Fstat links) c content offset opens = tt
kind_stays has_end (act.Pipe first second) c content offset opens = tt
kind_stays has_end (act.Socketpair first second) c content offset opens = tt
kind_stays has_end (act.Shutdown side how) c (Pair p) offset opens = refl
kind_stays has_end (act.Shutdown side how) c content offset opens = tt

-- what a path names is a file
pub named_file : (s : State) (object : ℕ) → IsTidy s → IsNamed (seen s) object
    → is_a_file (fin.get s.objects object) ≡ true
named_file s object h named =
    let n = is_named s object named in
    let whole = h.whole in whole.names n.path object n.refers

pub opens_file : (s : State) (c : Call) (object : ℕ) (a : Act) (x : Change) → CanAct (seen s) c object a
    → ChangesWith object a x → IsTidy s → OpensFile a (content_of (changed s c x) object)
opens_file s c object (act.Open n cut) x can (new, is, own) h =
    rw is (same_kind s object (content_of s object) refl (named_file s object h can.0))
opens_file s c object a x can with h = tt

-- what is left something is there
abbrev IsThereFor : State → ℕ → Option Content → Type 0
IsThereFor s object new = IfSome new (λ c. is_some (fin.get s.objects object) ≡ true)

there_for : (s : State) (object : ℕ) (new : Option Content) → is_some (fin.get s.objects object) ≡ true
    → IsThereFor s object new
there_for s object (Some c) there = there
there_for s object None there = tt

seen_there : (s : State) (object : ℕ) (at : Seen) → IsTidy s → IsSeen (seen s) at → at.object ≡ object
    → is_some (fin.get s.objects object) ≡ true
seen_there s object at h found own =
    let its = shown_by s found.descriptor at found.found in
    ap (λ (k : ℕ). is_some (fin.get s.objects k)) (sym own ∙ ap (λ (x : Seen). x.object) its.is_seen)
    ∙ (let whole = h.whole in whole.refers at.key its.description its.found.there)

named_there : (s : State) (object : ℕ) → IsTidy s → IsNamed (seen s) object → is_some (fin.get s.objects object) ≡ true
named_there s object h named = file_is_there (fin.get s.objects object) (named_file s object h named)

-- ## The state after an act

-- an offset that is moved
pub moved_tidy : (s : State) (offset key : Option ℕ) → IsTidy s → IsTidy (moved_to s offset key (description_of s key))
moved_tidy s None key h = h
moved_tidy s (Some to) None h = h
moved_tidy s (Some to) (Some key) h = by_there (fin.get s.descriptions key) refl
  where
    by_there : (o : Option Description) → fin.get s.descriptions key ≡ o → IsTidy (moved_to s (Some to) (Some key) o)
    by_there (Some d) there = own_tidy s key d (record d { offset = to }) there refl h
    by_there None none = h

pub moved_objects : (s : State) (offset key : Option ℕ) (o : Option Description)
    → (let after = moved_to s offset key o in after.objects) ≡ s.objects
moved_objects s None key o = refl
moved_objects s (Some to) None o = refl
moved_objects s (Some to) (Some key) None = refl
moved_objects s (Some to) (Some key) (Some d) = refl

used_again : (s : State) (object : ℕ) (old new : Content) → (is_a_file (Some old) ≡ true → is_a_file (Some new) ≡ true)
    → Used s object old → Used s object new
used_again s object old new kind (inl d) = inl d
used_again s object old new kind (inr n) = inr (kind n.0, n.1)

-- what an object holds
held_tidy : (s : State) (object : ℕ) (new : Option Content) → Stays (content_of s object) new → IsThereFor s object new
    → IsTidy s → IsTidy (holding s object new)
held_tidy s object None stays there h = h
held_tidy s object (Some c) stays there h =
    let (old, at) = some_is (fin.get s.objects object) there in
    let own : content_of s object ≡ old = ap (λ (o : Option Content). unwrap_or o (File [])) at in
    let kind = alike_file old c (subst (λ (x : Content). is_alike x c ≡ true) own stays) in
    content_tidy s object c (used_again s object old c kind (h.uses object old at))
    (λ file. kind (ap is_a_file (sym at) ∙ file)) h

put_tidy : (s : State) (object : ℕ) (a : Act) (done : Acted) → Stays (content_of s object) done.content
    → IsThereFor s object done.content → IsTidy s → IsTidy (put s object a done)
put_tidy s object a done stays there h =
    let d = description_of s (key_of a) in
    let after : State = moved_to s done.offset (key_of a) d in
    let same = moved_objects s done.offset (key_of a) d in
    held_tidy after object done.content
    (subst (λ (m : FinMap nat_cmp Content). Stays (unwrap_or (fin.get m object) (File [])) done.content) (sym same)
    stays)
    (subst (λ (m : FinMap nat_cmp Content). IfSome done.content (λ c. is_some (fin.get m object) ≡ true)) (sym same)
    there)
    (moved_tidy s done.offset (key_of a) h)

act_there : (s : State) (c : Call) (object : ℕ) (a : Act) (x : Change) (content : Content) (offset : ℕ) (has : End
    → Bool) → CanAct (seen s) c object a → ChangesWith object a x → IsTidy s
    → IsThereFor (changed s c x) object (let done = acted has a c content offset in done.content)
act_there s c object (act.Open n cut) x content offset has can (new, is, own) h =
    rw is (there_for s object (let done = acted has (act.Open n cut) c content offset in done.content)
    (named_there s object h can.0))
act_there s c object (act.Create n) x content offset has can with h = tt
act_there s c object act.Release x content offset has can with h = tt
act_there s c object (act.Pipe first second) x content offset has can with h = tt
act_there s c object (act.Socketpair first second) x content offset has can with h = tt
act_there s c object (act.Read from count) x content offset has can with h =
    rw with (there_for s object (let done = acted has (act.Read from count) c content offset in done.content)
    (seen_there s object from h can.0.found can.0.object_is))
act_there s c object (act.Write to before) x content offset has can with h =
    rw with (there_for s object (let done = acted has (act.Write to before) c content offset in done.content)
    (seen_there s object to h can.found can.object_is))
act_there s c object (act.Pread count position) x content offset has can with h =
    rw with (there_for s object (let done = acted has (act.Pread count position) c content offset in done.content)
    (seen_there s object can.0.at h can.0.file.found can.0.file.object_is))
act_there s c object (act.Pwrite start) x content offset has can with h =
    rw with (there_for s object (let done = acted has (act.Pwrite start) c content offset in done.content)
    (seen_there s object can.at h can.file.found can.file.object_is))
act_there s c object (act.Lseek at) x content offset has can with h =
    rw with (there_for s object (let done = acted has (act.Lseek at) c content offset in done.content)
    (seen_there s object at h can.found can.object_is))
act_there s c object (act.Ftruncate size) x content offset has can with h =
    rw with (there_for s object (let done = acted has (act.Ftruncate size) c content offset in done.content)
    (seen_there s object can.0.at h can.0.file.found can.0.file.object_is))
act_there s c object (act.Fstat links) x content offset has can with h =
    rw with (there_for s object (let done = acted has (act.Fstat links) c content offset in done.content)
    (seen_there s object can.at h can.file.found can.file.object_is))
act_there s c object (act.Shutdown side how) x content offset has can with h =
    rw with (there_for s object (let done = acted has (act.Shutdown side how) c content offset in done.content)
    (seen_there s object can.at h can.found can.object_is))

-- ## The step

act_tidy : (s : State) (c : Call) (object : ℕ) (a : Act) (x : Change) → CanAct (seen s) c object a
    → ChangesWith object a x → IsTidy s → (let after : State = changed s c x in
    IsTidy after → IsTidy (after_act after object a c))
act_tidy s c object a x can with h tidy =
    let after : State = changed s c x in
    let content : Content = content_of after object in
    let offset : ℕ = offset_in (description_of after (key_of a)) in
    put_tidy after object a (acted_at after object a c)
    (kind_stays (has_end after object) a c content offset (opens_file s c object a x can with h))
    (act_there s c object a x content offset (has_end after object) can with h) tidy

pub tidy_kept : Keeps IsTidy
tidy_kept = record { by_change = change_tidy; by_act = act_tidy; by_door = door_tidy }

pub steps_keep_tidy : StepsKeepTidy
steps_keep_tidy settings s c outcome carried h =
    nothing_unused (step settings s c outcome carried).after
    (step_keeps IsTidy tidy_kept settings s c outcome carried (tidy_of s h))
