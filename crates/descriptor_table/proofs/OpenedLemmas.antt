-- What is opened, in the table beside the state: both ends of a new object.
use Rattle.std.proofs.Common.{◌≡◌, ℕ, ◌<◌, length, Option, Some, None, is_some, true, false, refl, sym, ap, ◌∙◌, subst}
use Rattle.std.proofs.Common.{arith}
use Rattle.std.proofs.lemmas.List.{get_or-set_same}
use Rattle.std.specs.FinMap as fin
use Rattle.sequential_object.specs.Descriptors as posix
use Rattle.sequential_object.specs.Object.{State, Content, DoorTo}
use Rattle.sequential_object.specs.Object as object
use Rattle.posix_terms.specs.declared.call.Access.{Access}
use Rattle.posix_terms.specs.declared.object.End.{End}
use Rattle.file_descriptions.specs.Descriptions.{AreSound, new_description}
use Rattle.file_descriptions.specs.Laws.{ChangesKeepSound}
use Rattle.file_descriptions.specs.declared.description.Description.{Description}
use Rattle.descriptor_table.proofs.ChangeLemmas.{birth_of_new, content_of_new, shows-opened, shows-with_object}
use Rattle.descriptor_table.proofs.SoundLemmas.{room_of, sound-opened, sound-with_object}
use Rattle.descriptor_table.specs.Changes.{IsFreeNumber, IsNextObject, no_flags, opened, with_object}
use Rattle.descriptor_table.specs.Shows.{Shows, birth_at, is_of}
use Rattle.descriptor_table.specs.Table.{TableState, IsSound}

-- ## Both ends of a new object

module _ (t : TableState) (s : State) (sound : IsSound t) (all : AreSound t.descriptions) (shows : Shows t s)
    (content : Content) (one other : End × Access) where
  abbrev pub one_opened : ℕ → ℕ → ℕ → TableState
  one_opened node first key = opened (with_object t node) first key node one.0 one.1 no_flags

  abbrev pub both_opened : ℕ → ℕ → ℕ → ℕ → ℕ → TableState
  both_opened node first second key next = opened (one_opened node first key) second next node other.0 other.1 no_flags

  -- and the state
  abbrev pub opened_both : ℕ → ℕ → ℕ → State
  opened_both birth first second =
      posix.opened (posix.opened (object.with_object s content) first birth one.0 one.1 false false) second birth
      other.0 other.1 false false

  pub shows-two : ChangesKeepSound → (node first second key next : ℕ) → IsNextObject t node → IsFreeNumber t first
      → IsFreeNumber t second
      → fin.get t.descriptions.by_key key ≡ None → fin.get (one_opened node first key).descriptions.by_key next ≡ None
      → is_of one.0 content ≡ true → is_of other.0 content ≡ true
      → Shows (both_opened node first second key next) (opened_both s.next_object first second)
  shows-two keep node first second key next (low, free, is_next) (one_low, one_free) (two_low, two_free) fresh fresh_too
      has has_too =
      subst (λ (b : ℕ). Shows (both_opened node first second key next) (opened_both b first second))
      (birth_of_new t node inside ∙ sym shows.next_object)
      (shows-opened between (posix.opened (object.with_object s content) first (birth_at made node) one.0 one.1 false
      false) second next node other.0 other.1 no_flags sound_between all_between shown_between
      (omega (arith, two_low, sound_between.numbers)) fresh_too
      (ap (is_of other.0) (content_of_new t s node content shows inside) ∙ has_too))
    where
      made : TableState
      made = with_object t node

      between : TableState
      between = one_opened node first key

      new : Description
      new = new_description node one.0 one.1 no_flags t.descriptions.made

      inside : node < length t.objects
      inside = let objects : length t.objects ≡ 48 = sound.object_numbers in omega (arith, objects)

      sound_made : IsSound made
      sound_made = sound-with_object t node low free sound

      sound_between : IsSound between
      sound_between = sound-opened made first key new sound_made one_low one_free fresh refl
          (ap (λ (o : Option ℕ). is_some o) (get_or-set_same t.objects node (Some t.made_objects) None inside))

      all_between : AreSound between.descriptions
      all_between = keep.made t.descriptions key new all fresh (room_of t first sound all one_low one_free) refl refl

      shown_between : Shows between (posix.opened (object.with_object s content) first (birth_at made node) one.0 one.1
          false false)
      shown_between =
          shows-opened made (object.with_object s content) first key node one.0 one.1 no_flags sound_made all
          (shows-with_object t s content node sound shows inside free)
          (omega (arith, one_low, sound_made.numbers)) fresh
          (ap (is_of one.0) (content_of_new t s node content shows inside) ∙ has)
