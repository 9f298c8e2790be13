-- A change of a call, in the table and in the body of a new object.
use Rattle.std.proofs.Common.{◌≡◌, ◌≢◌, ◌⊎◌, ℕ, ◌<◌, [], length, Option, Some, None, is_some, inl, inr, refl, sym, ap}
use Rattle.std.proofs.Common.{◌∙◌, subst, arith}
use Rattle.std.proofs.lemmas.Bool.{false≢true}
use Rattle.std.proofs.lemmas.List.{get_or-set_same, get_or-set_other}
use Rattle.std.proofs.lemmas.Option.{none-some, same_Some}
use Rattle.std.specs.FinMap as fin
use Rattle.std.specs.Prelude.{slice_index_or}
use Rattle.sequential_object.specs.Object.{State, Content, DoorTo, File, Pair, Pipe}
use Rattle.sequential_object.specs.Numbers.{world_with}
use Rattle.sequential_object.specs.Streams.{new_pair}
use Rattle.sequential_object.specs.Worlds.{World}
use Rattle.posix_terms.specs.Calls.{Call}
use Rattle.posix_terms.specs.declared.limits.TheConstants.Limits as limit
use Rattle.sequential_object.specs.Changes.{changed, door_of, door_opened}
use Rattle.sequential_object.specs.Renaming.{change_by, new_by}
use Rattle.sequential_object.specs.So.{Can}
use Rattle.sequential_object.specs.declared.decision.Change.{Change}
use Rattle.sequential_object.specs.declared.decision.Change.TheVariants as change
use Rattle.sequential_object.specs.declared.decision.NewDescriptor.{NewDescriptor}
use Rattle.descriptor_table.specs.Changes.{IsNextObject}
use Rattle.descriptor_table.specs.Laws.{TableFollows}
use Rattle.descriptor_table.specs.Table.{TableState, free_object}
use Rattle.descriptor_table.specs.View.{names_of, view}
use Rattle.call_turns.specs.Acting.{IsInside, cleared, emptied}
use Rattle.call_turns.specs.Bodies.{Kept, first_kept, kept_as, keeping}
use Rattle.call_turns.specs.Store.{Stands, Stored, kept_at}
use Rattle.call_turns.proofs.Contents.{MadeBy, contents_stay}
use Rattle.call_turns.proofs.Found.{put_at}
use Rattle.call_turns.proofs.Numbering.{next_is_new}
use Rattle.call_turns.proofs.Stepping.{Leaves, stands_by}

pub kept_own : (c : Content) (k : Kept) → c ≡ kept_as c (keeping c k)
kept_own (File bytes) k = refl
kept_own (Pipe bytes) k = refl
kept_own (Pair p) k = refl
kept_own (DoorTo door) k = refl

not_below : (n : ℕ) → n < n → ⊥
not_below n l = omega arith

module _ (h : Stored) (w : World) (st : Stands h w) (u : TableState) (after : State) (m : Leaves h.table u after) where
  -- an object that was there is not the next one
  was_there : (k b : ℕ) (content : Content) → slice_index_or u.objects k None ≡ Some b
      → fin.get w.object.objects b ≡ Some content
      → slice_index_or h.table.objects k None ≡ Some b
  was_there k b content is was = by_number (m.numbers.numbers k b is)
    where
      by_number : (slice_index_or h.table.objects k None ≡ Some b)
          ⊎ ((free_object h.table ≡ Some k) × (b ≡ h.table.made_objects))
          → slice_index_or h.table.objects k None ≡ Some b
      by_number (inl had) = had
      by_number (inr new) =
          absurd (false≢true (sym (next_is_new h w st)
          ∙ ap (λ (o : Option Content). is_some o) (ap (fin.get w.object.objects) (sym new.1) ∙ was)))

  -- and the next one is under the next number
  is_next : (k b : ℕ) → slice_index_or u.objects k None ≡ Some b → b ≡ w.object.next_object
      → free_object h.table ≡ Some k
  is_next k b is next = by_number (m.numbers.numbers k b is)
    where
      by_number : (slice_index_or h.table.objects k None ≡ Some b)
          ⊎ ((free_object h.table ≡ Some k) × (b ≡ h.table.made_objects)) → free_object h.table ≡ Some k
      by_number (inl had) =
          absurd (not_below h.table.made_objects
          (subst (λ (n : ℕ). n < h.table.made_objects) (next ∙ st.shows.next_object) (st.sound.born k b had)))
      by_number (inr new) = new.0

  -- where no object is made
  pub stands_kept : ((b : ℕ) (content : Content) → fin.get after.objects b ≡ Some content
      → fin.get w.object.objects b ≡ Some content)
      → Stands (record { table = u; bodies = h.bodies }) (world_with w after)
  stands_kept kept =
      stands_by h w st u after m h.bodies (λ k b is content got.
      st.contents k b (was_there k b content is (kept b content got)) content (kept b content got))

  -- where an object is made that holds this
  pub stands_made : (object : ℕ) (made : Content) → free_object h.table ≡ Some object
      → slice_index_or h.table.objects object None ≡ None → object < length h.bodies
      → ((b : ℕ) (content : Content) → fin.get after.objects b ≡ Some content
      → (fin.get w.object.objects b ≡ Some content) ⊎ ((b ≡ w.object.next_object) × (content ≡ made)))
      → Stands (record { table = u; bodies = emptied h.bodies object made }) (world_with w after)
  stands_made object made free none inside came =
      stands_by h w st u after m (emptied h.bodies object made)
      (λ k b is content got. by_came k b is content (came b content got))
    where
      by_came : (k b : ℕ) → slice_index_or u.objects k None ≡ Some b → (content : Content)
          → (fin.get w.object.objects b ≡ Some content) ⊎ ((b ≡ w.object.next_object) × (content ≡ made))
          → content ≡ kept_as content (slice_index_or (emptied h.bodies object made) k first_kept)
      by_came k b is content (inl was) =
          let had = was_there k b content is was in
          let apart : k ≢ object = λ same. none-some b
          (sym none ∙ ap (λ (i : ℕ). slice_index_or h.table.objects i None) (sym same) ∙ had) in
          st.contents k b had content was
          ∙ ap (kept_as content) (sym (get_or-set_other h.bodies object k (keeping made (kept_at h object)) first_kept
          apart))
      by_came k b is content (inr (next, holds)) =
          let here : k ≡ object = same_Some k object (sym (is_next k b is next) ∙ free) in
          subst (λ (c : Content). c ≡ kept_as c (slice_index_or (emptied h.bodies object made) k first_kept))
          (sym holds)
          (kept_own made (kept_at h object)
          ∙ ap (kept_as made) (sym (ap (λ (i : ℕ). slice_index_or (emptied h.bodies object made) i first_kept) here
          ∙ get_or-set_same h.bodies object (keeping made (kept_at h object)) first_kept inside)))

module _ (law : TableFollows) (h : Stored) (w : World) (st : Stands h w) (long : length h.bodies ≡ limit.OBJECTS)
    (c : Call) where
  made_at : (u : TableState) (object : ℕ) (made : Content) (after : State) → Leaves h.table u after
      → free_object h.table ≡ Some object
      → ((b : ℕ) (content : Content) → fin.get after.objects b ≡ Some content
      → (fin.get w.object.objects b ≡ Some content) ⊎ ((b ≡ w.object.next_object) × (content ≡ made)))
      → Stands (record { table = u; bodies = emptied h.bodies object made }) (world_with w after)
  made_at u object made after m free came =
      let next : IsNextObject h.table object = law.next h.table object free in
      let low : object < 48 = next.0 in
      stands_made h w st u after m object made free next.1 (omega (arith, low, long)) came

  -- under the names of the state
  abbrev named : Change → Change
  named x = change_by (names_of h.table) x

  -- of a change that makes no object
  not_made : (x : Change) → ((content : Content) → MadeBy (named x) content → ⊥)
      → (b : ℕ) (content : Content) → fin.get (changed w.object c (named x)).objects b ≡ Some content
      → fin.get w.object.objects b ≡ Some content
  not_made x none b content is =
      elim (contents_stay w.object c (named x) b content is) [
        | inl was ↦ was
        | inr new ↦ absurd (none content new.1)
      ]

  same_bodies : (u : TableState) (x : Change) → ((content : Content) → MadeBy (named x) content → ⊥)
      → Leaves h.table u (changed w.object c (named x))
      → Stands (record { table = u; bodies = h.bodies }) (world_with w (changed w.object c (named x)))
  same_bodies u x none m = stands_kept h w st u (changed w.object c (named x)) m (not_made x none)

  pub stands_changed : (u : TableState) (x : Change) → Can (view h.table) c x
      → Leaves h.table u (changed w.object c (change_by (names_of h.table) x))
      → Stands (record { table = u; bodies = cleared h.bodies x })
      (world_with w (changed w.object c (change_by (names_of h.table) x)))
  stands_changed u (change.MakeFile new) can m =
      made_at u new.object (File []) _ m can.1
      (contents_stay w.object c (change_by (names_of h.table) (change.MakeFile new)))
  stands_changed u (change.MakePipe new) can m =
      made_at u new.object (Pipe []) _ m can.next
      (contents_stay w.object c (change_by (names_of h.table) (change.MakePipe new)))
  stands_changed u (change.MakeSockets new) can m =
      made_at u new.object (Pair new_pair) _ m can.next
      (contents_stay w.object c (change_by (names_of h.table) (change.MakeSockets new)))
  stands_changed u change.Nothing can m = same_bodies u change.Nothing (λ content never. never) m
  stands_changed u (change.Share n key) can m = same_bodies u (change.Share n key) (λ content never. never) m
  stands_changed u (change.Close n key) can m = same_bodies u (change.Close n key) (λ content never. never) m
  stands_changed u (change.Replace n old_key key) can m =
      same_bodies u (change.Replace n old_key key) (λ content never. never) m
  stands_changed u (change.SetFlags key append nonblock) can m = same_bodies u (change.SetFlags key append nonblock)
      (λ content never. never) m
  stands_changed u (change.AddFile object) can m = same_bodies u (change.AddFile object) (λ content never. never) m
  stands_changed u change.AddDirectory can m = same_bodies u change.AddDirectory (λ content never. never) m
  stands_changed u (change.RemoveFile object) can m = same_bodies u (change.RemoveFile object) (λ content never. never)
      m
  stands_changed u change.RemoveDirectory can m = same_bodies u change.RemoveDirectory (λ content never. never) m
  stands_changed u (change.Rename object lost) can m =
      same_bodies u (change.Rename object lost) (λ content never. never) m
  stands_changed u (change.OpenFile new) can m = same_bodies u (change.OpenFile new) (λ content never. never) m

  -- a door that was opened outside
  pub stands_opened : (u : TableState) (new : NewDescriptor) (value : ℕ) → free_object h.table ≡ Some new.object
      → Leaves h.table u (door_opened w.object c (new_by (names_of h.table) new) value)
      → Stands (record { table = u; bodies = h.bodies })
      (world_with w (door_opened w.object c (new_by (names_of h.table) new) value))
  stands_opened u new value free m =
      stands_by h w st u _ m h.bodies
      (λ k b is content got. by_put k b is content
      (put_at w.object.objects w.object.next_object (DoorTo (door_of c value)) b content got))
    where
      by_put : (k b : ℕ) → slice_index_or u.objects k None ≡ Some b → (content : Content)
          → ((b ≡ w.object.next_object) × (DoorTo (door_of c value) ≡ content))
          ⊎ ((b ≢ w.object.next_object) × (fin.get w.object.objects b ≡ Some content))
          → content ≡ kept_as content (kept_at h k)
      by_put k b is content (inl (at, same)) = subst (λ (x : Content). x ≡ kept_as x (kept_at h k)) same refl
      by_put k b is content (inr (apart, was)) = st.contents k b (was_there h w st u _ m k b content is was) content was

pub inside : (law : TableFollows) (t : TableState) (c : Call) (x : Change) → Can (view t) c x → IsInside x
inside law t c (change.MakeFile new) can = let next : IsNextObject t new.object = law.next t new.object can.1 in next.0
inside law t c (change.MakePipe new) can = let next : IsNextObject t new.object = law.next t new.object can.next in
    next.0
inside law t c (change.MakeSockets new) can = let next : IsNextObject t new.object = law.next t new.object can.next in
    next.0
inside law t c x can = tt
