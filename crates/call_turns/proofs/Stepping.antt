-- What the table promises of a change or an act is enough for the store to stand for the world after it.
use Rattle.std.proofs.Common.{◌≡◌, ◌≢◌, ℕ, zero, suc, ◌+◌, ◌-◌, ◌<◌, ◌≤◌, List, [], ◌∷◌, length, map, set, Option, Some}
use Rattle.std.proofs.Common.{None, true, false, inl, inr, refl, sym, ap, ◌∙◌, subst, arith, ⊎_elim}
use Rattle.std.proofs.lemmas.Bool.{cases_Bool, cases_eq, cond-true, cond-false}
use Rattle.std.proofs.lemmas.Option.{none-some, same_Some}
use Rattle.std.proofs.lemmas.List.{get_or-set_same, get_or-set_other, length-set, map-id}
use Rattle.std.specs.FinMap as fin
use Rattle.std.specs.Prelude.{is_some, slice_index_or}
use Rattle.sequential_object.specs.Object.{State, Content}
use Rattle.sequential_object.specs.Numbers.{first_free, if_there, with_births, world_with}
use Rattle.sequential_object.specs.Worlds.{World}
use Rattle.file_descriptions.specs.Descriptions.{AreSound}
use Rattle.descriptor_table.specs.Agreement.{IsBorn, NumbersStay}
use Rattle.descriptor_table.specs.Shows.{Shows}
use Rattle.descriptor_table.specs.Table.{IsSound, TableState, free_object}
use Rattle.call_turns.specs.Bodies.{Kept, first_kept, kept_as}
use Rattle.call_turns.specs.Store.{Stands, Stored}
use Rattle.call_turns.proofs.Found.{place_within}
use Rattle.call_turns.proofs.Lists.{maps_agree}
use Rattle.call_turns.proofs.Numbering.{first_free_is, lowest_is_free}

get_or-map_none : (f : Option ℕ → Option ℕ) → f None ≡ None → (xs : List (Option ℕ)) (k : ℕ)
    → slice_index_or (map f xs) k None ≡ f (slice_index_or xs k None)
get_or-map_none f none [] k = sym none
get_or-map_none f none (x ∷ xs) zero = refl
get_or-map_none f none (x ∷ xs) (suc k) = get_or-map_none f none xs k

list_ext : (xs ys : List (Option ℕ)) (d : Option ℕ) → length xs ≡ length ys
    → ((k : ℕ) → slice_index_or xs k d ≡ slice_index_or ys k d) → xs ≡ ys
list_ext xs ys d count each = sym (map-id xs)
    ∙ maps_agree (λ (o : Option ℕ). o) (λ (o : Option ℕ). o) xs ys d d count each ∙ map-id ys

not_below : (n : ℕ) → n < n → ⊥
not_below n l = omega arith

not_under : (n k : ℕ) → n ≤ k → k < n → ⊥
not_under n k a b = omega arith

-- the table after a change or an act, and what the sequential object left
pub record Leaves (t u : TableState) (after : State) : Type 0 where
  pub sound : IsSound u
  pub described : AreSound u.descriptions
  pub shows : Shows u after
  pub numbers : NumbersStay t u

module _ (h : Stored) (w : World) (st : Stands h w) (u : TableState) (after : State) (m : Leaves h.table u after) where
  -- ## Numbers

  made_before : w.object.next_object ≡ h.table.made_objects
  made_before = st.shows.next_object

  numbers_by : (xs ys : List (Option ℕ)) → length ys ≡ length xs
      → ((k : ℕ) → if_there after (slice_index_or xs k None) ≡ slice_index_or ys k None) → map (if_there after) xs ≡ ys
  numbers_by xs ys count each = maps_agree (if_there after) (λ (o : Option ℕ). o) xs ys None None (sym count) each
      ∙ map-id ys

  -- an object that had a number is there under it, or gone
  kept_number : (k b : ℕ) → slice_index_or h.table.objects k None ≡ Some b → is_some (fin.get after.objects b) ≡ true
      → slice_index_or u.objects k None ≡ Some b
  kept_number k b had there =
      let found = m.shows.numbered b there in
      ⊎_elim
      (λ (was : slice_index_or h.table.objects found.0 None ≡ Some b). ap (λ (i : ℕ). slice_index_or u.objects i None)
      (sym (st.sound.distinct found.0 k b was had)) ∙ found.1)
      (λ (new : (free_object h.table ≡ Some found.0) × (b ≡ h.table.made_objects)).
      absurd (not_below h.table.made_objects
      (subst (λ (n : ℕ). n < h.table.made_objects) new.1 (st.sound.born k b had))))
      (m.numbers.numbers found.0 b found.1)

  -- after it, at a number that had an object
  had_slot : (k b : ℕ) → slice_index_or h.table.objects k None ≡ Some b → (o : Option ℕ)
      → slice_index_or u.objects k None ≡ o → if_there after (Some b) ≡ o
  had_slot k b had (Some c) is =
      ⊎_elim
      (λ (was : slice_index_or h.table.objects k None ≡ Some c).
      let same : c ≡ b = same_Some c b (sym was ∙ had) in
      cond-true _ _ _ (ap (λ (n : ℕ). is_some (fin.get after.objects n)) (sym same) ∙ m.shows.objects k c is)
      ∙ ap (λ (n : ℕ). Some n) (sym same))
      (λ (new : (free_object h.table ≡ Some k) × (c ≡ h.table.made_objects)).
      absurd (none-some b (sym (lowest_is_free h.table.objects 48 0 k new.0) ∙ had)))
      (m.numbers.numbers k c is)
  had_slot k b had None is =
      ⊎_elim
      (λ (there : is_some (fin.get after.objects b) ≡ true). absurd (none-some b (sym is ∙ kept_number k b had there)))
      (λ (gone : is_some (fin.get after.objects b) ≡ false). cond-false _ _ _ gone)
      (cases_Bool (is_some (fin.get after.objects b)))

  same_length : length u.objects ≡ length h.table.objects
  same_length = m.sound.object_numbers ∙ sym st.sound.object_numbers

  none_born : (a b : ℕ) → a ≡ b → 0 ≡ a - b
  none_born a b e = omega arith

  one_born : (a b : ℕ) → a ≡ b + 1 → a - b ≡ 1
  one_born a b e = omega arith

  none_new : u.made_objects ≡ h.table.made_objects → (k : ℕ) → slice_index_or h.table.objects k None ≡ None
      → (o : Option ℕ) → slice_index_or u.objects k None ≡ o → None ≡ o
  none_new same k had None is = refl
  none_new same k had (Some c) is =
      ⊎_elim
      (λ (was : slice_index_or h.table.objects k None ≡ Some c). absurd (none-some c (sym had ∙ was)))
      (λ (new : (free_object h.table ≡ Some k) × (c ≡ h.table.made_objects)).
      absurd (not_below h.table.made_objects
      (subst (λ (n : ℕ). n < h.table.made_objects) new.1 (subst (λ (n : ℕ). c < n) same (m.sound.born k c is)))))
      (m.numbers.numbers k c is)

  slot_same : u.made_objects ≡ h.table.made_objects → (k : ℕ) (o : Option ℕ) → slice_index_or h.table.objects k None ≡ o
      → if_there after o ≡ slice_index_or u.objects k None
  slot_same same k None had = none_new same k had (slice_index_or u.objects k None) refl
  slot_same same k (Some b) had = had_slot k b had (slice_index_or u.objects k None) refl

  Numbers : Type 0
  Numbers = with_births (after.next_object - w.object.next_object) w.object.next_object (map (if_there after) w.numbers)
      ≡ u.objects

  numbers_same : u.made_objects ≡ h.table.made_objects → Numbers
  unfolding Numbers
  numbers_same same =
      ap (λ (n : ℕ). with_births n w.object.next_object (map (if_there after) w.numbers))
      (sym (none_born after.next_object w.object.next_object (m.shows.next_object ∙ same ∙ sym made_before)))
      ∙ ap (map (if_there after)) st.numbers
      ∙ numbers_by h.table.objects u.objects same_length
      (λ k. slot_same same k (slice_index_or h.table.objects k None) refl)

  -- after the birth of an object
  each_kept : (b : IsBorn h.table u) (k : ℕ) (o : Option ℕ) → slice_index_or h.table.objects k None ≡ o
      → if_there after o ≡ o
  each_kept b k None had = refl
  each_kept b k (Some x) had = cond-true _ _ _ (m.shows.objects k x (b.others k x had))

  slot_born : (b : IsBorn h.table u) (k : ℕ) → k ≢ b.node → (o p : Option ℕ)
      → slice_index_or h.table.objects k None ≡ o → slice_index_or u.objects k None ≡ p → o ≡ p
  slot_born b k apart (Some x) p had is = sym (b.others k x had) ∙ is
  slot_born b k apart None None had is = refl
  slot_born b k apart None (Some c) had is =
      ⊎_elim
      (λ (was : slice_index_or h.table.objects k None ≡ Some c). absurd (none-some c (sym had ∙ was)))
      (λ (new : (free_object h.table ≡ Some k) × (c ≡ h.table.made_objects)).
      absurd (apart (same_Some k b.node (sym new.0 ∙ b.free))))
      (m.numbers.numbers k c is)

  numbers_born : IsBorn h.table u → Numbers
  unfolding Numbers
  numbers_born b =
      ap (λ (n : ℕ). with_births n w.object.next_object (map (if_there after) w.numbers))
      (one_born after.next_object w.object.next_object (m.shows.next_object ∙ b.made
      ∙ ap (λ (n : ℕ). n + 1) (sym made_before)))
      ∙ ap (λ (l : List (Option ℕ)). with_births 1 w.object.next_object (map (if_there after) l)) st.numbers
      ∙ ap (λ (l : List (Option ℕ)). with_births 1 w.object.next_object l) mapped_is
      ∙ ap (λ (n : ℕ). set h.table.objects (first_free h.table.objects) (Some n)) made_before
      ∙ ap (λ (n : ℕ). set h.table.objects n (Some h.table.made_objects))
      (first_free_is h.table b.node st.sound.object_numbers b.free)
      ∙ set_is
    where
      mapped_is : map (if_there after) h.table.objects ≡ h.table.objects
      mapped_is = numbers_by h.table.objects h.table.objects refl
          (λ k. each_kept b k (slice_index_or h.table.objects k None) refl)

      wide : b.node < length h.table.objects
      wide = subst (λ (n : ℕ). b.node < n) (m.sound.object_numbers ∙ sym st.sound.object_numbers)
          (place_within u.objects b.node h.table.made_objects b.here)

      taken : List (Option ℕ)
      taken = set h.table.objects b.node (Some h.table.made_objects)

      set_is : taken ≡ u.objects
      set_is = list_ext taken u.objects None (length-set h.table.objects b.node (Some h.table.made_objects)
          ∙ sym same_length) (λ k.
          elim (cases_eq k b.node) [
            | inl at ↦ ap (λ (i : ℕ). slice_index_or taken i None) at
                ∙ get_or-set_same h.table.objects b.node (Some h.table.made_objects) None wide
                ∙ sym (ap (λ (i : ℕ). slice_index_or u.objects i None) at ∙ b.here)
            | inr apart ↦ get_or-set_other h.table.objects b.node k (Some h.table.made_objects) None apart
                ∙ slot_born b k apart (slice_index_or h.table.objects k None) (slice_index_or u.objects k None) refl
                refl
          ])

  numbers_follow : Numbers
  numbers_follow = ⊎_elim numbers_same numbers_born m.numbers.born

-- whose bodies hold what the objects do
pub stands_by : (h : Stored) (w : World) → Stands h w → (u : TableState) (after : State) → Leaves h.table u after
    → (bodies : List Kept)
    → ((k b : ℕ) → slice_index_or u.objects k None ≡ Some b → (content : Content)
    → fin.get after.objects b ≡ Some content → content ≡ kept_as content (slice_index_or bodies k first_kept))
    → Stands (record { table = u; bodies = bodies }) (world_with w after)
unfolding world_with Numbers
stands_by h w st u after m bodies contents = record {
  sound = m.sound;
  described = m.described;
  shows = m.shows;
  contents = contents;
  numbers = numbers_follow h w st u after m;
}
