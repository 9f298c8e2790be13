-- What a change leaves shows what the same change, under the names of
-- the state, leaves of the state: one case a change.
use Rattle.std.proofs.Common.{◌≡◌, ◌≢◌, ℕ, ◌-◌, ◌<◌, ◌≤◌, ◌==◌, List, [], length, Option, Some, None, Ok, true, false}
use Rattle.std.proofs.Common.{subst, refl, sym, ap, ◌∙◌, arith}
use Rattle.std.proofs.lemmas.Bool.{eq-eqb}
use Rattle.std.proofs.lemmas.Bool.Decides.{nat_tests}
use Rattle.std.proofs.lemmas.Option.{same_Some}
use Rattle.std.specs.FinMap as fin
use Rattle.std.specs.Option.{option_map}
use Rattle.std.specs.Prelude.{ℤ, pos, negsuc}
use Rattle.sequential_object.specs.Descriptors as posix
use Rattle.sequential_object.specs.Duplicates as duplicates
use Rattle.sequential_object.specs.Object as object
use Rattle.sequential_object.specs.Object.{State, Content, Node, FileNode, Directory, File, Pipe, Pair, DoorTo}
use Rattle.sequential_object.specs.Object.{content_of}
use Rattle.sequential_object.specs.Paths.{components_of}
use Rattle.sequential_object.specs.Streams.{new_pair}
use Rattle.posix_terms.specs.Calls.{Call}
use Rattle.posix_terms.specs.declared.call.Access.{Access}
use Rattle.posix_terms.specs.declared.call.Access.TheVariants.{ReadOnly, WriteOnly, ReadWrite}
use Rattle.posix_terms.specs.declared.object.Door.{Door}
use Rattle.posix_terms.specs.declared.object.Door.TheVariants as door
use Rattle.posix_terms.specs.declared.object.End.{End}
use Rattle.posix_terms.specs.declared.object.End.TheVariants as part
use Rattle.posix_terms.specs.declared.object.Side.TheVariants.{Side0, Side1}
use Rattle.file_descriptions.specs.Descriptions.{AreSound, ContainsKey, description_at}
use Rattle.file_descriptions.specs.Laws.{ChangesKeepSound}
use Rattle.file_descriptions.specs.declared.description.Description.{Description}
use Rattle.sequential_object.specs.Changes as state
use Rattle.sequential_object.specs.Changes.{changed, door_of, door_opened, old_path_of, opened_at, path_of}
use Rattle.sequential_object.specs.Renaming.{change_by, new_by}
use Rattle.sequential_object.specs.So.{Can}
use Rattle.sequential_object.specs.declared.decision.Change.{Change}
use Rattle.sequential_object.specs.declared.decision.Change.TheVariants as change
use Rattle.sequential_object.specs.declared.decision.NewDescriptor.{NewDescriptor}
use Rattle.sequential_object.specs.declared.decision.NewEnds.{NewEnds}
use Rattle.descriptor_table.proofs.CanLemmas.{can_so, found_at}
use Rattle.descriptor_table.proofs.ChangeLemmas.{birth_of_new, content_of_new, shows-closed, shows-flags, shows-moved}
use Rattle.descriptor_table.proofs.ChangeLemmas.{shows-name, shows-opened, shows-shared, shows-with_file}
use Rattle.descriptor_table.proofs.ChangeLemmas.{shows-with_object, shows-without_gone, shows-without_name}
use Rattle.descriptor_table.proofs.Closing.{over_closed, over_holder, over_released}
use Rattle.descriptor_table.proofs.MapLemmas.{get-remove_other}
use Rattle.descriptor_table.proofs.NextLemmas.{born_next}
use Rattle.descriptor_table.proofs.OpenedLemmas.{shows-two}
use Rattle.descriptor_table.proofs.PathLemmas.{file_at_name}
use Rattle.descriptor_table.proofs.ShownLemmas.{key_known, key_shown}
use Rattle.descriptor_table.proofs.SoundLemmas.{closed_other, known_at, same_file, sound-closed, sound-moved}
use Rattle.descriptor_table.proofs.SoundLemmas.{sound-unnamed, sound-with_file, sound-with_object, used-found}
use Rattle.descriptor_table.specs.Changes.{AreOpened, CanChange, CanMakeEnds, Changed, IsNextObject, IsOpened, closed}
use Rattle.descriptor_table.specs.Changes.{flags_of, let_go, named, renamed, shared, unnamed, with_file, with_object}
use Rattle.descriptor_table.specs.Changes.{with_paths, without_lost}
use Rattle.descriptor_table.specs.Shows.{Shows, birth_at, birth_of, is_of, same_door}
use Rattle.descriptor_table.specs.Table.{TableState, IsSound, is_used, key_at}
use Rattle.descriptor_table.specs.View.{names_of, view}

-- a door is the same as itself
same_itself : (d : Door) → same_door d d ≡ true
same_itself door.HostFile = refl
same_itself (door.Listener port) = eq-eqb port port refl
same_itself door.Stream = refl

module _ (keep : ChangesKeepSound) (t : TableState) (s : State) (sound : IsSound t) (all : AreSound t.descriptions)
    (shows : Shows t s) where
  inside : (n : ℕ) → n < 32 → n < length t.descriptors
  inside n low = let long : length t.descriptors ≡ 32 = sound.numbers in omega (arith, low, long)

  within : (node : ℕ) → IsNextObject t node → node < length t.objects
  within node next =
      let long : length t.objects ≡ 48 = sound.object_numbers in
      let low : node < 48 = next.0 in
      omega (arith, low, long)

  -- the file of a name is a file
  is_file : (path : List ℕ) (node : ℕ) → (view t).named path ≡ Ok (Some (FileNode node))
      → is_of part.Only (content_of s (birth_at t node)) ≡ true
  is_file path node at = file_at_name t s (components_of path) node shows
      (found_at t.paths path (Some (FileNode node)) at).0

  by_file : (node : ℕ) → is_of part.Only (content_of s (birth_at t node)) ≡ true → (n : ℕ) → FileNode node ≡ FileNode n
      → is_of part.Only (content_of s (birth_at t n)) ≡ true
  by_file node file n same = ap (λ (k : ℕ). is_of part.Only (content_of s (birth_at t k))) (sym (same_file node n same))
      ∙ file

  -- ## Descriptors

  shared_shown : (n key : ℕ) → n < 32 → ContainsKey t.descriptions key
      → Shows (shared t n key) (duplicates.shared s n (birth_of t key))
  shared_shown n key low known =
      shows-shared t s n key (description_at t.descriptions key) all shows (inside n low)
      (known_at t.descriptions key known)

  closed_shown : (n key : ℕ) → key_at t (pos n) ≡ Some key
      → Shows (closed t n key) (state.closed s n (birth_of t key) (fin.get s.descriptions (birth_of t key)))
  closed_shown n key at =
      let got : fin.get t.descriptions.by_key key ≡ Some (description_at t.descriptions key) =
      key_known t (pos n) key sound at in
      rw (shows.descriptions key (description_at t.descriptions key) got)
      (shows-closed keep t s n key sound all shows at got)

  -- ## A descriptor that another one replaces

  left_all : (n key : ℕ) → key_at t (pos n) ≡ Some key → AreSound (closed t n key).descriptions
  left_all n key at = subst AreSound (sym same_left) still
    where
      d : Description
      d = description_at t.descriptions key

      got : fin.get t.descriptions.by_key key ≡ Some d
      got = key_known t (pos n) key sound at

      same_left : (closed t n key).descriptions ≡ (let_go t n key).descriptions
      same_left = over_closed (λ (u : TableState). u.descriptions ≡ (let_go t n key).descriptions) t n key refl
          (λ node gone. refl)

      two : (h : ℕ) → 1 ≤ h → (h == 1) ≡ false → 1 ≤ h - 1
      two h some last = grind (arith, nat_tests)

      still : AreSound (let_go t n key).descriptions
      still =
          over_holder AreSound t.descriptions key (keep.removed t.descriptions key all)
          (λ more. keep.changed t.descriptions key d (record d { holders = d.holders - 1 }) all got
          (two d.holders (all.held key d got) more) refl)

  -- the state without what number n referred to
  abbrev without : ℕ → ℕ → State
  without n key = state.closed s n (birth_of t key) (fin.get s.descriptions (birth_of t key))

  still_at : (n key : ℕ) (descriptor : ℤ) → descriptor ≢ pos n
      → posix.key_at (without n key) descriptor ≡ posix.key_at s descriptor
  still_at n key (negsuc m) apart = refl
  still_at n key (pos m) apart = by_found (fin.get s.descriptions (birth_of t key)) refl
    where
      other : fin.get (fin.remove s.descriptors n) m ≡ fin.get s.descriptors m
      other = get-remove_other s.descriptors n m (λ e. apart (ap (λ (x : ℕ). pos x) e))

      by_found : (o : Option object.Description) → fin.get s.descriptions (birth_of t key) ≡ o
          → fin.get (state.closed s n (birth_of t key) o).descriptors m ≡ fin.get s.descriptors m
      by_found None is = refl
      by_found (Some d) is =
          over_released (λ (a : State). fin.get a.descriptors m ≡ fin.get s.descriptors m) (posix.freed s (pos n))
          (birth_of t key) d other other other

  -- the birth of a description that another descriptor refers to
  birth_stays : (n old_key key : ℕ) (descriptor : ℤ) → key_at t (pos n) ≡ Some old_key → descriptor ≢ pos n
      → key_at t descriptor ≡ Some key
      → birth_of (closed t n old_key) key ≡ birth_of t key
  birth_stays n old_key key descriptor at apart its =
      let before : posix.key_at s descriptor ≡ Some (birth_of t key) = key_shown t s descriptor shows
      ∙ ap (option_map (birth_of t)) its in
      let now : key_at (closed t n old_key) descriptor ≡ Some key = closed_other t n old_key descriptor apart ∙ its in
      let later : posix.key_at (without n old_key) descriptor ≡ Some (birth_of (closed t n old_key) key) =
      key_shown (closed t n old_key) (without n old_key) descriptor (closed_shown n old_key at)
      ∙ ap (option_map (birth_of (closed t n old_key))) now in
      same_Some _ _ (sym later ∙ still_at n old_key descriptor apart ∙ before)

  -- ## What is opened

  opened_shown : (new : NewDescriptor) (u : TableState) → new.number < 32
      → is_of part.Only (content_of s (birth_at t new.object)) ≡ true → IsOpened t new part.Only u
      → Shows u (opened_at s (new_by (names_of t) new) part.Only)
  opened_shown new u low has is =
      subst (λ (x : TableState). Shows x (opened_at s (new_by (names_of t) new) part.Only)) (sym is.2)
      (shows-opened t s new.number is.0 new.object part.Only new.access (flags_of new) sound all shows
      (inside new.number low) is.1 has)

  made_shown : (c : Call) (new : NewDescriptor) (u : TableState) → new.number < 32 → IsNextObject t new.object
      → IsOpened (with_file t (named t c (FileNode new.object)) new.object) new part.Only u
      → Shows u (changed s c (change_by (names_of t) (change.MakeFile new)))
  made_shown c new u low next is =
      subst (λ (n : ℕ). Shows u (opened_at after (record new { object = n }) part.Only))
      (birth_of_new t new.object (within new.object next) ∙ sym its)
      (subst (λ (x : TableState). Shows x
      (opened_at after (record new { object = birth_at made new.object }) part.Only)) (sym is.2)
      (shows-opened made after new.number is.0 new.object part.Only new.access (flags_of new) kept all shown_made
      (inside new.number low) is.1 has))
    where
      made : TableState
      made = with_file t (named t c (FileNode new.object)) new.object

      after : State
      after = posix.with_file s (components_of (path_of c))

      kept : IsSound made
      kept = sound-with_file t (components_of (path_of c)) new.object (within new.object next) next.1 sound

      shown_made : Shows made after
      shown_made = shows-with_file t s (components_of (path_of c)) new.object sound shows (within new.object next)
          next.1

      its : birth_at t new.object ≡ t.made_objects
      its = born_next t s sound all shows new.object next.2 ∙ shows.next_object

      has : is_of part.Only (content_of after (birth_at made new.object)) ≡ true
      has = ap (is_of part.Only) (content_of_new t s new.object (File []) shows (within new.object next))

  ends_shown : (content : Content) (one other : End × Access) (new : NewEnds) (u : TableState) → CanMakeEnds t new
      → is_of one.0 content ≡ true → is_of other.0 content ≡ true → AreOpened t one other new u
      → Shows u (state.with_ends s content (record { which = one.0; access = one.1 })
      (record { which = other.0; access = other.1 }) (record new { object = birth_at t new.object }))
  ends_shown content one other new u (first_free, second_free, apart, next) has has_too
      (key, fresh, (later, fresh_too, is)) =
      subst (λ (b : ℕ). Shows u (state.with_ends s content (record { which = one.0; access = one.1 })
      (record { which = other.0; access = other.1 }) (record new { object = b })))
      (sym (born_next t s sound all shows new.object next.2))
      (subst (λ (x : TableState). Shows x
      (state.with_ends s content (record { which = one.0; access = one.1 })
      (record { which = other.0; access = other.1 }) (record new { object = s.next_object }))) (sym is)
      (shows-two t s sound all shows content one other keep new.object new.first new.second key later next first_free
      second_free fresh fresh_too has has_too))

  pub shows-door : (c : Call) (new : NewDescriptor) (value : ℕ) (u : TableState) → new.number < 32
      → IsNextObject t new.object
      → IsOpened (with_object t new.object) new (part.Door (door_of c value)) u
      → Shows u (door_opened s c (new_by (names_of t) new) value)
  shows-door c new value u low next is =
      subst (λ (n : ℕ). Shows u (opened_at after (record new { object = n }) which))
      (birth_of_new t new.object (within new.object next) ∙ sym its)
      (subst (λ (x : TableState). Shows x (opened_at after (record new { object = birth_at made new.object }) which))
      (sym is.2)
      (shows-opened made after new.number is.0 new.object which new.access (flags_of new) kept all shown_made
      (inside new.number low) is.1 has))
    where
      which : End
      which = part.Door (door_of c value)

      made : TableState
      made = with_object t new.object

      after : State
      after = object.with_object s (DoorTo (door_of c value))

      kept : IsSound made
      kept = sound-with_object t new.object next.0 next.1 sound

      shown_made : Shows made after
      shown_made = shows-with_object t s (DoorTo (door_of c value)) new.object sound shows (within new.object next)
          next.1

      its : birth_at t new.object ≡ t.made_objects
      its = born_next t s sound all shows new.object next.2 ∙ shows.next_object

      has : is_of which (content_of after (birth_at made new.object)) ≡ true
      has = ap (is_of which) (content_of_new t s new.object (DoorTo (door_of c value)) shows (within new.object next))
          ∙ same_itself (door_of c value)

  -- ## Names

  -- a file is gone where it lost its last name
  lost_shown : (u : TableState) (after : State) (lost : Option ℕ) → IsSound u → AreSound u.descriptions → Shows u after
      → ((other : ℕ) → lost ≡ Some other → is_used u other ≡ true)
      → ((node : ℕ) → birth_at u node ≡ birth_at t node)
      → Shows (without_lost u lost) (state.without_lost after (option_map (birth_at t) lost))
  lost_shown u after None kept described its used same = its
  lost_shown u after (Some other) kept described its used same =
      subst (λ (b : ℕ). Shows (without_lost u (Some other)) (posix.without_unused after b)) (same other)
      (shows-without_gone u after other kept described its (used other refl))

pub shows_changed : ChangesKeepSound → (t u : TableState) (s : State) (c : Call) (x : Change) → IsSound t
    → AreSound t.descriptions → Shows t s → Can (view t) c x → Changed t c x u
    → Shows u (changed s c (change_by (names_of t) x))
shows_changed keep t u s c change.Nothing sound all shows can is = subst (λ (x : TableState). Shows x s) (sym is) shows
shows_changed keep t u s c (change.Share n key) sound all shows can is =
    let so : CanChange t c (change.Share n key) = can_so t c (change.Share n key) sound can in
    subst (λ (x : TableState). Shows x (duplicates.shared s n (birth_of t key))) (sym is)
    (shared_shown keep t s sound all shows n key so.0.0 so.1)
shows_changed keep t u s c (change.Close n key) sound all shows can is =
    let so : CanChange t c (change.Close n key) = can_so t c (change.Close n key) sound can in
    subst (λ (x : TableState). Shows x (changed s c (change_by (names_of t) (change.Close n key)))) (sym is)
    (closed_shown keep t s sound all shows n key so.1)
shows_changed keep t u s c (change.Replace n old_key key) sound all shows can is =
    let so : CanChange t c (change.Replace n old_key key) = can_so t c (change.Replace n old_key key) sound can in
    let other = can.1 in
    let its : key_at t other.descriptor ≡ Some key = grind (arith, other.found, other.key_is) in
    let left : IsSound (closed t n old_key) = sound-closed t n old_key sound so.0.1 in
    subst (λ (x : TableState). Shows x (changed s c (change_by (names_of t) (change.Replace n old_key key)))) (sym is)
    (subst (λ (b : ℕ). Shows (shared (closed t n old_key) n key)
    (duplicates.shared (without keep t s sound all shows n old_key) n b))
    (birth_stays keep t s sound all shows n old_key key other.descriptor so.0.1 other.apart its)
    (shared_shown keep (closed t n old_key) (without keep t s sound all shows n old_key) left
    (left_all keep t s sound all shows n old_key so.0.1)
    (closed_shown keep t s sound all shows n old_key so.0.1) n key so.0.0 so.1))
shows_changed keep t u s c (change.SetFlags key append nonblock) sound all shows can is =
    let so : CanChange t c (change.SetFlags key append nonblock) =
    can_so t c (change.SetFlags key append nonblock) sound can in
    let got : fin.get t.descriptions.by_key key ≡ Some (description_at t.descriptions key) =
    known_at t.descriptions key so in
    subst (λ (x : TableState). Shows x (changed s c (change_by (names_of t) (change.SetFlags key append nonblock))))
    (sym is)
    (rw (shows.descriptions key (description_at t.descriptions key) got)
    (shows-flags t s key (description_at t.descriptions key) (record { append = append; nonblock = nonblock }) all shows
    got))
shows_changed keep t u s c (change.AddFile object) sound all shows can is =
    subst (λ (x : TableState). Shows x (changed s c (change_by (names_of t) (change.AddFile object)))) (sym is)
    (shows-name t s (components_of (path_of c)) (FileNode object) shows
    (by_file keep t s sound all shows object (is_file keep t s sound all shows can.0.path object can.0.found)))
shows_changed keep t u s c change.AddDirectory sound all shows can is =
    subst (λ (x : TableState). Shows x (changed s c change.AddDirectory)) (sym is)
    (shows-name t s (components_of (path_of c)) Directory shows (λ n same. cc))
shows_changed keep t u s c (change.RemoveFile object) sound all shows can is =
    subst (λ (x : TableState). Shows x (changed s c (change_by (names_of t) (change.RemoveFile object)))) (sym is)
    (shows-without_gone (with_paths t (unnamed t c)) (state.without_name s c) object
    (sound-unnamed t (components_of (path_of c)) sound) all
    (shows-without_name t s (components_of (path_of c)) shows) (used-found t (path_of c) object can sound))
shows_changed keep t u s c change.RemoveDirectory sound all shows can is =
    subst (λ (x : TableState). Shows x (changed s c change.RemoveDirectory)) (sym is)
    (shows-without_name t s (components_of (path_of c)) shows)
shows_changed keep t u s c (change.Rename object lost) sound all shows can is =
    let so : CanChange t c (change.Rename object lost) = can_so t c (change.Rename object lost) sound can in
    let moved : TableState = with_paths t (renamed t c object) in
    subst (λ (x : TableState). Shows x (changed s c (change_by (names_of t) (change.Rename object lost)))) (sym is)
    (lost_shown keep t s sound all shows moved (state.renamed s c (birth_at t object)) lost
    (sound-moved t (components_of (old_path_of c)) (components_of (path_of c)) object so.0 sound) all
    (shows-moved t s (components_of (old_path_of c)) (components_of (path_of c)) object so.0 shows)
    (λ other its. used-found t (path_of c) other
    (can.1 ∙ ap (λ (o : Option ℕ). Ok (option_map (λ k. FileNode k) o)) its) sound)
    (λ node. refl))
shows_changed keep t u s c (change.OpenFile new) sound all shows can is =
    let so : CanChange t c (change.OpenFile new) = can_so t c (change.OpenFile new) sound can in
    opened_shown keep t s sound all shows new u so.0.0
    (is_file keep t s sound all shows can.1.path new.object can.1.found) is
shows_changed keep t u s c (change.MakeFile new) sound all shows can is =
    let so : CanChange t c (change.MakeFile new) = can_so t c (change.MakeFile new) sound can in
    made_shown keep t s sound all shows c new u so.0.0 so.1 is
shows_changed keep t u s c (change.MakePipe new) sound all shows can is =
    ends_shown keep t s sound all shows (Pipe []) (part.Read, ReadOnly) (part.Write, WriteOnly) new u
    (can_so t c (change.MakePipe new) sound can) refl refl is
shows_changed keep t u s c (change.MakeSockets new) sound all shows can is =
    ends_shown keep t s sound all shows (Pair new_pair) (part.Socket Side0, ReadWrite) (part.Socket Side1, ReadWrite)
    new u
    (can_so t c (change.MakeSockets new) sound can) refl refl is
