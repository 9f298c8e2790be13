-- The table with the bodies, and the world that they stand for.
use Rattle.std.proofs.Common.{◌≡◌, ℕ, zero, suc, List, Option, Some, None, Result, Ok, Err, IfOk, true, get_or}
use Rattle.std.proofs.Common.{replicate, refl, sym, ap, ◌∙◌, arith, ⊎_elim}
use Rattle.std.proofs.lemmas.Bool.{cond-true, cond-false}
use Rattle.std.proofs.lemmas.Option.{none-some}
use Rattle.std.specs.FinMap as fin
use Rattle.std.specs.Option.{option_map}
use Rattle.std.specs.Ordering.{nat_cmp}
use Rattle.std.specs.Prelude.{unwrap_or}
use Rattle.sequential_object.specs.Locked.{locked_object}
use Rattle.sequential_object.specs.Step.{Carried}
use Rattle.posix_terms.specs.Calls.{Call}
use Rattle.posix_terms.specs.declared.errno.Errno.{Errno}
use Rattle.posix_terms.specs.declared.limits.TheConstants.Limits as limit
use Rattle.file_descriptions.specs.declared.description.Description.{Description}
use Rattle.sequential_object.specs.Decided.{decided}
use Rattle.sequential_object.specs.Meant.{locks_of}
use Rattle.sequential_object.specs.Renaming.{decision_by, ok_by}
use Rattle.sequential_object.specs.So.{IsSo}
use Rattle.sequential_object.specs.declared.decision.Decision.{Decision}
use Rattle.sequential_object.specs.declared.decision.Decision.TheVariants as decision
use Rattle.descriptor_table.specs.Laws.{Follows, IsKnownNumber, TableFollows}
use Rattle.descriptor_table.specs.Shows.{birth_at}
use Rattle.descriptor_table.specs.Table.{free_object, is_used}
use Rattle.descriptor_table.specs.View.{names_of, view}
use Rattle.sequential_object.specs.Numbers.{first_free, first_world, number_in, number_of}
use Rattle.sequential_object.specs.Answers.{numbered}
use Rattle.sequential_object.specs.Worlds.{World}
use Rattle.call_turns.proofs.Found.{birth_is}
use Rattle.call_turns.proofs.Numbering.{first_free_is, lowest_is_free, next_is_new, number_in_is}
use Rattle.call_turns.specs.Store.{Stands, Stored, first_stored, locking_of, number_locked}
use Rattle.call_turns.specs.declared.patience.Locking.{Locking}

-- ## The number of an object

pub used_number : (h : Stored) (w : World) (object : ℕ) → Stands h w → is_used h.table object ≡ true
    → number_of w (birth_at h.table object) ≡ object
used_number h w object stands used =
    let birth = birth_at h.table object in
    let slot = birth_is h.table object used in
    cond-true _ _ _ (stands.shows.objects object birth slot)
    ∙ ap (λ (slots : List (Option ℕ)). number_in slots birth) stands.numbers
    ∙ number_in_is h.table.objects object birth slot (λ other is. stands.sound.distinct other object birth is slot)

free_number : (h : Stored) (w : World) (object : ℕ) → Stands h w → free_object h.table ≡ Some object
    → number_of w (birth_at h.table object) ≡ object
free_number h w object stands free =
    let birth : birth_at h.table object ≡ h.table.made_objects = ap (λ (o : Option ℕ). unwrap_or o h.table.made_objects)
    (lowest_is_free h.table.objects limit.OBJECTS 0 object free) in
    ap (number_of w) birth
    ∙ cond-false _ _ _ (next_is_new h w stands)
    ∙ ap first_free stands.numbers
    ∙ first_free_is h.table object stands.sound.object_numbers free

stands_number : (h : Stored) (w : World) (object : ℕ) → Stands h w → IsKnownNumber h.table object
    → number_of w (birth_at h.table object) ≡ object
stands_number h w object stands known = ⊎_elim (λ used. used_number h w object stands used)
    (λ free. free_number h w object stands free) known.1

module _ (law : TableFollows) (h : Stored) (w : World) (stands : Stands h w) (c : Call) (carried : Carried) where
  follows : Follows h.table c carried.moved
  follows = law.calls h.table c carried.moved stands.sound stands.described

  by_decided : (d : Result Decision Errno) → IfOk d (IsSo (view h.table) c)
      → numbered w (locks_of (ok_by (decision_by (names_of h.table)) d))
      ≡ option_map (λ (x : Locking). x.object) (locking_of d)
  by_decided (Err e) so = refl
  by_decided (Ok (decision.Replies r x)) so = refl
  by_decided (Ok (decision.Locks object d)) so =
      ap (λ (n : ℕ). Some n) (stands_number h w object stands (law.known h.table c object d stands.sound so))

  -- the number of the object that a call locks is that of the lock machine
  pub number_known : numbered w (locked_object w.object c carried) ≡ number_locked h c carried
  unfolding locked_object
  number_known =
      ap (λ (d : Result Decision Errno). numbered w (locks_of d)) (follows.step w.object stands.shows)
      ∙ by_decided (decided (view h.table) c carried.moved) follows.so

-- ## At the start

abbrev no_object : Option ℕ
no_object = None

slot_none : (k n : ℕ) → get_or (replicate k no_object) n None ≡ None
slot_none zero zero = refl
slot_none zero (suc n) = refl
slot_none (suc k) zero = refl
slot_none (suc k) (suc n) = slot_none k n

nothing : {X Y : Type 0} (o : Option X) (x : X) → o ≡ None → o ≡ Some x → Y
nothing o x none some = absurd (none-some x (sym none ∙ some))

pub stands_first : TableFollows → Stands first_stored first_world
stands_first law =
    record {
      sound = law.first.0;
      described =
          record {
            few = rw (fin.len-empty nat_cmp Description) (omega arith);
            held = λ key d is. nothing _ d (fin.get-empty nat_cmp key) is;
            born = λ key d is. nothing _ d (fin.get-empty nat_cmp key) is;
            distinct = λ key other d e is its same. nothing _ d (fin.get-empty nat_cmp key) is;
          };
      shows = law.first.1;
      contents = λ object birth is content got. nothing _ birth (slot_none limit.OBJECTS object) is;
      numbers = refl;
    }
