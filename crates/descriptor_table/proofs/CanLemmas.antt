-- What was found in the view of a table is so in the table: what each change needs.
use Rattle.std.proofs.Common.{◌≡◌, ◌⊎◌, ℕ, ◌+◌, ◌-◌, ◌<◌, ◌≤◌, List, length, Option, Some, None, Ok, true, sym, ap, ◌∙◌}
use Rattle.std.proofs.Common.{subst, inl, inr, arith}
use Rattle.std.proofs.lemmas.Bool.Decides.{nat_tests}
use Rattle.std.specs.FinMap as fin
use Rattle.std.specs.Prelude.{pos}
use Rattle.sequential_object.specs.Names.{PathMap}
use Rattle.sequential_object.specs.Object.{Node, FileNode}
use Rattle.sequential_object.specs.Paths.{components_of, node_at, resolved}
use Rattle.posix_terms.specs.Calls.{Call}
use Rattle.posix_terms.specs.declared.limits.TheConstants.Limits as limit
use Rattle.directories.specs.Lookup.{NamesFile, looked_up}
use Rattle.file_descriptions.specs.Descriptions.{ContainsKey}
use Rattle.sequential_object.specs.Changes.{old_path_of, path_of}
use Rattle.sequential_object.specs.So as so
use Rattle.sequential_object.specs.So.{Can, CanAct, CanAdd, CanDo, CanEnds, IsFree, IsKey, IsOtherKey, IsSeen, IsShut}
use Rattle.sequential_object.specs.declared.decision.Act.{Act}
use Rattle.sequential_object.specs.declared.decision.Act.TheVariants as act
use Rattle.sequential_object.specs.declared.decision.Deed.{Deed}
use Rattle.sequential_object.specs.declared.decision.Deed.TheVariants as deed
use Rattle.sequential_object.specs.declared.decision.Seen.{Seen}
use Rattle.sequential_object.specs.declared.decision.Change.{Change}
use Rattle.sequential_object.specs.declared.decision.Change.TheVariants as change
use Rattle.sequential_object.specs.declared.decision.NewEnds.{NewEnds}
use Rattle.descriptor_table.proofs.FreeLemmas.{free_number, free_path, lowest_above, next_object, resolved_leads}
use Rattle.descriptor_table.proofs.SoundLemmas.{bind_ok, closed_other, key_inside, ok_same, some_inside, sound-closed}
use Rattle.descriptor_table.proofs.UseLemmas.{key_there, named_used, seen_key, seen_used}
use Rattle.descriptor_table.specs.Applied.{AreNumbers}
use Rattle.descriptor_table.specs.Laws.{IsKnownNumber}
use Rattle.descriptor_table.specs.Changes.{CanChange, CanMakeEnds, IsFreeNumber, IsFreePath, IsNextObject, Refers}
use Rattle.descriptor_table.specs.Changes.{closed}
use Rattle.descriptor_table.specs.Table.{TableState, IsSound, free_object, is_used, key_at, lowest_free, lowest_from}
use Rattle.descriptor_table.specs.View.{view}

-- from no number on there is none where there are no more
nothing_left : (t : TableState) (from n : ℕ) → lowest_free t from ≡ Some n → from ≤ 32
unfolding lowest_from
nothing_left t from n is = grind (arith, nat_tests, is)

free_at : (t : TableState) (from n : ℕ) → lowest_free t from ≡ Some n → IsFreeNumber t n
free_at t from n is = free_number t from n (nothing_left t from n is) is

pub number_free : (t : TableState) (n : ℕ) → IsFree (view t) n → IsFreeNumber t n
number_free t n free = free_at t free.least n free.found

shut_free : (t : TableState) (n : ℕ) → IsShut (view t) n → IsFreeNumber t n
shut_free t n shut = (grind (arith, nat_tests, shut.inside), grind (arith, shut.found))

either_free : (t : TableState) (n : ℕ) → IsFree (view t) n ⊎ IsShut (view t) n → IsFreeNumber t n
either_free t n (inl free) = number_free t n free
either_free t n (inr shut) = shut_free t n shut

pub refers_so : (t : TableState) (n key : ℕ) → IsSound t → so.Refers (view t) n key → Refers t n key
refers_so t n key sound refers =
    let at : key_at t (pos n) ≡ Some key = grind (arith, refers.found, refers.key_is) in
    let inside : n < length t.descriptors = key_inside t.descriptors n key at in
    let long : length t.descriptors ≡ 32 = sound.numbers in
    (omega (arith, inside, long), at)

key_so : (t : TableState) (key : ℕ) → IsSound t → IsKey (view t) key → ContainsKey t.descriptions key
key_so t key sound its = rw (← its.key_is) (seen_key t its.at sound its.found)

-- a description that another descriptor refers to stays when one is closed
other_so : (t : TableState) (n old_key key : ℕ) → IsSound t → Refers t n old_key → IsOtherKey (view t) n key
    → ContainsKey (closed t n old_key).descriptions key
other_so t n old_key key sound refers other =
    let at : key_at t other.descriptor ≡ Some key = grind (arith, other.found, other.key_is) in
    key_there (closed t n old_key) other.descriptor key (sound-closed t n old_key sound refers.1)
    (closed_other t n old_key other.descriptor other.apart ∙ at)

-- what a path names, by its own components; and no path that leads anywhere is too long
pub found_at : (paths : PathMap) (path : List ℕ) (node : Option Node) → looked_up paths path ≡ Ok node
    → (node_at paths (components_of path) ≡ node) × (length path ≤ limit.PATH_BYTES)
unfolding looked_up
found_at paths path node is =
    let found = bind_ok (resolved paths path) (λ components. Ok (node_at paths components)) node is in
    let leads = resolved_leads paths path found.0 found.1.0 in
    (ap (node_at paths) (sym leads.0) ∙ ok_same _ _ found.1.1, leads.1)

path_free : (t : TableState) (path : List ℕ) → CanAdd (view t) path → IsFreePath t.paths path
unfolding looked_up
path_free t path can =
    let found = bind_ok (resolved t.paths path) (λ components. Ok (node_at t.paths components)) None can.missing in
    free_path t.paths path found.0 found.1.0 (ok_same _ _ found.1.1) can.room

names_so : (paths : PathMap) (components : List (List ℕ)) (object : ℕ)
    → node_at paths components ≡ Some (FileNode object)
    → fin.get paths components ≡ Some (FileNode object)
names_so paths components object at = grind (arith, at)

pub file_named : (paths : PathMap) (path : List ℕ) (object : ℕ) → looked_up paths path ≡ Ok (Some (FileNode object))
    → NamesFile paths path object
file_named paths path object is =
    names_so paths (components_of path) object (found_at paths path (Some (FileNode object)) is).0

ends_so : (t : TableState) (new : NewEnds) → CanEnds (view t) new → CanMakeEnds t new
ends_so t new can =
    let above : new.first + 1 ≤ new.second = lowest_above t.descriptors (32 - (new.first + 1)) (new.first + 1)
    new.second can.second in (
      free_at t 0 new.first can.first,
      free_at t (new.first + 1) new.second can.second,
      omega (arith, above),
      next_object
          t new.object can.next,
    )

pub can_so : (t : TableState) (c : Call) (x : Change) → IsSound t → Can (view t) c x → CanChange t c x
can_so t c change.Nothing sound can = tt
can_so t c (change.Share n key) sound can = (either_free t n can.0, key_so t key sound can.1)
can_so t c (change.Close n key) sound can = refers_so t n key sound can
can_so t c (change.Replace n old_key key) sound can =
    let refers : Refers t n old_key = refers_so t n old_key sound can.0 in
    (refers, other_so t n old_key key sound refers can.1)
can_so t c (change.SetFlags key append nonblock) sound can = key_so t key sound can
can_so t c (change.AddFile object) sound can = (path_free t (path_of c) can.1, named_used t object sound can.0)
can_so t c change.AddDirectory sound can = (path_free t (path_of c) can, tt)
can_so t c (change.RemoveFile object) sound can = tt
can_so t c change.RemoveDirectory sound can = tt
can_so t c (change.Rename object lost) sound can =
    (file_named t.paths (old_path_of c) object can.0, (found_at t.paths (path_of c) _ can.1).1)
can_so t c (change.OpenFile new) sound can = (number_free t new.number can.0, named_used t new.object sound can.1)
can_so t c (change.MakeFile new) sound can =
    (number_free t new.number can.0, next_object t new.object can.1, path_free t (path_of c) can.2)
can_so t c (change.MakePipe new) sound can = ends_so t new can
can_so t c (change.MakeSockets new) sound can = ends_so t new can

-- ## What a call does with the object that it locks

pub numbers_so : (t : TableState) (c : Call) (object : ℕ) (a : Act) → CanAct (view t) c object a → AreNumbers a
numbers_so t c object (act.Open n cut) can = (number_free t n can.1).0
numbers_so t c object (act.Create n) can = (number_free t n can.1).0
numbers_so t c object (act.Pipe first second) can = let so : CanMakeEnds t _ = ends_so t _ can in (so.0.0, so.1.0)
numbers_so t c object (act.Socketpair first second) can = let so : CanMakeEnds t _ = ends_so t _ can in (so.0.0, so.1.0)
numbers_so t c object a can = tt

used_known : (t : TableState) (object : ℕ) → IsSound t → is_used t object ≡ true → IsKnownNumber t object
used_known t object sound used =
    let inside : object < length t.objects = some_inside t.objects object used in
    let long : length t.objects ≡ 48 = sound.object_numbers in
    (omega (arith, inside, long), inl used)

next_known : (t : TableState) (object : ℕ) → free_object t ≡ Some object → IsKnownNumber t object
next_known t object next = let is : IsNextObject t object = next_object t object next in (is.0, inr next)

seen_known : (t : TableState) (object : ℕ) (at : Seen) → IsSound t → IsSeen (view t) at → at.object ≡ object
    → IsKnownNumber t object
seen_known t object at sound its is =
    subst (IsKnownNumber t) is (used_known t at.object sound (seen_used t at sound its))

acts_known : (t : TableState) (c : Call) (object : ℕ) (a : Act) → IsSound t → CanAct (view t) c object a
    → IsKnownNumber t object
acts_known t c object (act.Open n cut) sound can = used_known t object sound (named_used t object sound can.0)
acts_known t c object (act.Create n) sound can = next_known t object can.0
acts_known t c object act.Release sound (inl named) = used_known t object sound (named_used t object sound named)
acts_known t c object act.Release sound (inr referred) = seen_known t object referred.at sound referred.found
    referred.object_is
acts_known t c object (act.Read from count) sound can = seen_known t object from sound can.0.found can.0.object_is
acts_known t c object (act.Write to before) sound can = seen_known t object to sound can.found can.object_is
acts_known t c object (act.Pread count position) sound can = seen_known t object can.0.at sound can.0.file.found
    can.0.file.object_is
acts_known t c object (act.Pwrite position) sound can =
    seen_known t object can.at sound can.file.found can.file.object_is
acts_known t c object (act.Lseek at) sound can = seen_known t object at sound can.found can.object_is
acts_known t c object (act.Ftruncate size) sound can = seen_known t object can.0.at sound can.0.file.found
    can.0.file.object_is
acts_known t c object (act.Fstat links) sound can = seen_known t object can.at sound can.file.found can.file.object_is
acts_known t c object (act.Pipe first second) sound can = next_known t object can.next
acts_known t c object (act.Socketpair first second) sound can = next_known t object can.next
acts_known t c object (act.Shutdown side how) sound can = seen_known t object can.at sound can.found can.object_is

pub object_known : (t : TableState) (c : Call) (object : ℕ) (d : Deed) → IsSound t → CanDo (view t) c object d
    → IsKnownNumber t object
object_known t c object (deed.Acts a x) sound can = acts_known t c object a sound can.1
object_known t c object (deed.Asks blocks) sound can = seen_known t object can.0.at sound can.0.found can.0.object_is
object_known t c object (deed.Closes n key) sound can =
    seen_known t object can.0.at sound (record { descriptor = pos n; found = can.0.found }) can.0.object_is
object_known t c object (deed.Opens blocks listener new) sound can =
    subst (IsKnownNumber t) (sym can.1) (next_known t new.object can.0.next)
