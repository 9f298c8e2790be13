-- What an act leaves, of its object and of the description that it moves, stands for what it leaves of the state.
use Rattle.std.proofs.Common.{◌≡◌, ◌≢◌, ℕ, ◌<◌, List, [], length, unwrap_or, Option, Some, None, is_some, true, inl}
use Rattle.std.proofs.Common.{inr, refl, sym, ap, ◌∙◌, subst, arith}
use Rattle.std.proofs.lemmas.Bool.{cases_eq}
use Rattle.std.proofs.lemmas.List.{get_or-set_same, get_or-set_other}
use Rattle.std.proofs.lemmas.Option.{same_Some}
use Rattle.std.specs.FinMap as fin
use Rattle.std.specs.FinMap.{FinMap}
use Rattle.std.specs.Option.{option_map}
use Rattle.std.specs.Ordering.{nat_cmp}
use Rattle.std.specs.Prelude.{slice_index_or}
use Rattle.sequential_object.specs.Object as sequential
use Rattle.sequential_object.specs.Object.{State, Content, content_of}
use Rattle.sequential_object.specs.Numbers.{world_with}
use Rattle.sequential_object.specs.Worlds.{World}
use Rattle.posix_terms.specs.declared.limits.TheConstants.Limits as limit
use Rattle.file_descriptions.specs.Descriptions.{ContainsKey}
use Rattle.sequential_object.specs.Meant.{description_of, holding, moved_to}
use Rattle.descriptor_table.specs.Agreement.{NumbersStay}
use Rattle.descriptor_table.specs.Laws.{HasEndsOf, TableFollows}
use Rattle.descriptor_table.specs.Shows.{birth_at, birth_of}
use Rattle.descriptor_table.specs.Table.{TableState, is_used}
use Rattle.call_turns.specs.Acting as acting
use Rattle.call_turns.specs.Acting.{holding_if, moved_if}
use Rattle.call_turns.specs.Bodies.{Kept, first_kept, kept_as, keeping}
use Rattle.call_turns.specs.Store.{Stands, Stored, kept_at}
use Rattle.call_turns.proofs.Changing.{kept_own}
use Rattle.call_turns.proofs.Found.{birth_is, get-insert_same, get-insert_other, place_within}
use Rattle.call_turns.proofs.Stepping.{Leaves, stands_by}

-- the description of an act is there
abbrev pub IsKnown : TableState → Option ℕ → Type 0
IsKnown t (Some key) = ContainsKey t.descriptions key
IsKnown t None = Unit {0}

-- a new content is of the kind of the old one
abbrev pub IsAlike : Option Content → Content → Type 0
IsAlike (Some content) other = HasEndsOf content other
IsAlike None other = Unit {0}

numbers_same : (t u : TableState) → u.objects ≡ t.objects → u.made_objects ≡ t.made_objects
    → u.descriptions.made ≡ t.descriptions.made → NumbersStay t u
numbers_same t u objects made descriptions = record {
  numbers = λ object birth is. inl (ap (λ os. slice_index_or os object None) (sym objects) ∙ is);
  objects = omega (arith, made);
  born = inl made;
  descriptions = omega (arith, descriptions);
}

module _ (law : TableFollows) (h : Stored) (w : World) (st : Stands h w) where
  -- the key of a description in the state
  abbrev pub named : Option ℕ → Option ℕ
  named key = option_map (birth_of h.table) key

  -- the state with another offset of this description
  abbrev pub moved_state : Option ℕ → Option ℕ → State
  moved_state key offset = moved_to w.object offset (named key) (description_of w.object (named key))

  -- what a moved offset leaves
  record Moves (key offset : Option ℕ) : Type 0 where
    pub left : Leaves h.table (moved_if h key offset).table (moved_state key offset)
    pub objects : (moved_state key offset).objects ≡ w.object.objects
    pub numbers : (moved_if h key offset).table.objects ≡ h.table.objects
    pub bodies : (moved_if h key offset).bodies ≡ h.bodies

  pub stays : Leaves h.table h.table w.object
  stays = record {
    sound = st.sound;
    described = st.described;
    shows = st.shows;
    numbers = numbers_same h.table h.table refl refl refl;
  }

  objects_stay : (offset birth : ℕ) (d : Option sequential.Description)
      → (moved_to w.object (Some offset) (Some birth) d).objects ≡ w.object.objects
  objects_stay offset birth (Some d) = refl
  objects_stay offset birth None = refl

  moves : (key offset : Option ℕ) → IsKnown h.table key → Moves key offset
  moves None None known = record { left = stays; objects = refl; numbers = refl; bodies = refl }
  moves None (Some offset) known = record { left = stays; objects = refl; numbers = refl; bodies = refl }
  moves (Some key) None known = record { left = stays; objects = refl; numbers = refl; bodies = refl }
  moves (Some key) (Some offset) known =
      let its = law.offsets h.table key offset st.sound st.described known in
      record {
        left = record {
          sound = its.sound;
          described = its.described;
          shows = its.shows w.object st.shows;
          numbers = numbers_same h.table _ refl refl refl;
        };
        objects = objects_stay offset (birth_of h.table key) (fin.get w.object.descriptions (birth_of h.table key));
        numbers = refl;
        bodies = refl;
      }

  module _ (object : ℕ) (key offset : Option ℕ) (used : is_used h.table object ≡ true)
      (long : length h.bodies ≡ limit.OBJECTS)
      (m : Moves key offset) where
    abbrev moved : Stored
    moved = moved_if h key offset

    birth_here : slice_index_or h.table.objects object None ≡ Some (birth_at h.table object)
    birth_here = birth_is h.table object used

    -- what was held before
    was : (k b : ℕ) → slice_index_or moved.table.objects k None ≡ Some b → (c : Content)
        → fin.get (moved_state key offset).objects b ≡ Some c
        → c ≡ kept_as c (slice_index_or moved.bodies k first_kept)
    was k b is c got =
        st.contents k b (ap (λ os. slice_index_or os k None) (sym m.numbers) ∙ is) c
        (ap (λ (o : FinMap nat_cmp Content). fin.get o b) (sym m.objects) ∙ got)
        ∙ ap (λ (bodies : List Kept). kept_as c (slice_index_or bodies k first_kept)) (sym m.bodies)

    left_alone : Stands moved (world_with w (moved_state key offset))
    left_alone = stands_by h w st moved.table (moved_state key offset) m.left moved.bodies was

    module _ (content : Content) (alike : HasEndsOf content (content_of w.object (birth_at h.table object))) where
      abbrev after : State
      after = sequential.with_content (moved_state key offset) (birth_at h.table object) content

      there : is_some (fin.get (moved_state key offset).objects (birth_at h.table object)) ≡ true
      there = ap (λ (o : FinMap nat_cmp Content). is_some (fin.get o (birth_at h.table object))) m.objects
          ∙ st.shows.objects object (birth_at h.table object) birth_here

      left : Leaves h.table moved.table after
      left = record {
        sound = m.left.sound;
        described = m.left.described;
        shows =
            law.contents moved.table (moved_state key offset) (birth_at h.table object) content m.left.shows there
            (subst (λ (o : FinMap nat_cmp Content). HasEndsOf content
            (unwrap_or (fin.get o (birth_at h.table object)) (sequential.File []))) (sym m.objects) alike);
        numbers = m.left.numbers;
      }

      inside : object < length moved.bodies
      inside =
          let below : object < length h.table.objects = place_within h.table.objects object (birth_at h.table object)
          birth_here in
          let slots : length h.table.objects ≡ 48 = st.sound.object_numbers in
          subst (λ (bodies : List Kept). object < length bodies) (sym m.bodies) (omega (arith, below, slots, long))

      holds_at : (k b : ℕ) → slice_index_or moved.table.objects k None ≡ Some b → (c : Content)
          → fin.get after.objects b ≡ Some c
          → c ≡ kept_as c (slice_index_or (acting.holding moved object content).bodies k first_kept)
      holds_at k b is c got =
          elim (cases_eq k object) [
            | inl at ↦ (
                let had : slice_index_or h.table.objects object None ≡ Some b =
                ap (λ (i : ℕ). slice_index_or h.table.objects i None) (sym at)
                ∙ ap (λ os. slice_index_or os k None) (sym m.numbers) ∙ is in
                let one : b ≡ birth_at h.table object = same_Some _ _ (sym had ∙ birth_here) in
                let same : content ≡ c = same_Some _ _
                (sym (get-insert_same (moved_state key offset).objects (birth_at h.table object) content)
                ∙ ap (fin.get after.objects) (sym one) ∙ got) in
                subst (λ (x : Content). x ≡ kept_as x
                (slice_index_or (acting.holding moved object content).bodies k first_kept)) same
                (kept_own content (kept_at moved object)
                ∙ ap (kept_as content) (sym (ap
                (λ (i : ℕ). slice_index_or (acting.holding moved object content).bodies i first_kept) at
                ∙ get_or-set_same moved.bodies object (keeping content (kept_at moved object)) first_kept inside))))
            | inr apart ↦ (
                let had : slice_index_or h.table.objects k None ≡ Some b =
                ap (λ os. slice_index_or os k None) (sym m.numbers) ∙ is in
                let other : b ≢ birth_at h.table object =
                λ same. apart (st.sound.distinct k object b had
                (birth_here ∙ ap (λ (n : ℕ). Some n) (sym same))) in
                was k b is c (sym (get-insert_other (moved_state key offset).objects (birth_at h.table object) content b
                other) ∙ got)
                ∙ ap (kept_as c) (sym (get_or-set_other moved.bodies object k (keeping content (kept_at moved object))
                first_kept apart)))
          ]

      left_holding : Stands (acting.holding moved object content) (world_with w after)
      left_holding = stands_by h w st moved.table after left (acting.holding moved object content).bodies holds_at

  pub puts : (object : ℕ) (key offset : Option ℕ) (content : Option Content) → is_used h.table object ≡ true
      → length h.bodies ≡ limit.OBJECTS
      → IsKnown h.table key → IsAlike content (content_of w.object (birth_at h.table object))
      → Stands (holding_if (moved_if h key offset) object content)
      (world_with w (holding (moved_state key offset) (birth_at h.table object) content))
  puts object key offset None used long known alike = left_alone object key offset used long (moves key offset known)
  puts object key offset (Some content) used long known alike =
      left_holding object key offset used long (moves key offset known) content alike
