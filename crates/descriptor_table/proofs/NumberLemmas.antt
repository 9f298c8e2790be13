-- The numbers of objects, and how many were made, after a change.
use Rattle.std.proofs.Common.{◌≡◌, ◌⊎◌, ℕ, ◌<◌, length, List, Option, Some, None, refl, sym, ap, ◌∙◌, subst, inl, inr}
use Rattle.std.proofs.Common.{arith}
use Rattle.std.proofs.lemmas.List.{get_or-set_other, get_or-set_same}
use Rattle.std.proofs.lemmas.Option.{none-some}
use Rattle.std.specs.Prelude.{slice_index_or, slice_set}
use Rattle.sequential_object.specs.Names.{PathMap}
use Rattle.sequential_object.specs.Object.{FileNode}
use Rattle.posix_terms.specs.declared.call.Access.{Access}
use Rattle.posix_terms.specs.declared.call.Access.TheVariants.{ReadOnly, WriteOnly, ReadWrite}
use Rattle.posix_terms.specs.declared.object.End.{End}
use Rattle.posix_terms.specs.declared.object.End.TheVariants as part
use Rattle.posix_terms.specs.declared.object.Side.TheVariants.{Side0, Side1}
use Rattle.posix_terms.specs.Calls.{Call}
use Rattle.file_descriptions.specs.Descriptions.{DescriptionMap}
use Rattle.descriptor_table.proofs.Closing.{over_closed, over_gone, over_holder}
use Rattle.descriptor_table.proofs.ObjectLemmas.{IsNew, IsOld, Taken, freed_slot, taken_slot}
use Rattle.descriptor_table.specs.Agreement.{IsBorn, NumbersStay}
use Rattle.sequential_object.specs.Changes.{door_of}
use Rattle.descriptor_table.specs.Changes.{AreOpened, CanChange, Changed, IsDoorOpened, IsNextObject, IsOpened, closed}
use Rattle.descriptor_table.specs.Changes.{let_go, named, renamed, shared, unnamed, with_file, with_object, with_paths}
use Rattle.descriptor_table.specs.Changes.{without_gone, without_lost}
use Rattle.sequential_object.specs.declared.decision.Change.{Change}
use Rattle.sequential_object.specs.declared.decision.Change.TheVariants as change
use Rattle.sequential_object.specs.declared.decision.NewDescriptor.{NewDescriptor}
use Rattle.sequential_object.specs.declared.decision.NewEnds.{NewEnds}
use Rattle.descriptor_table.specs.Table.{TableState, IsSound, free_object}

numbers_same : (t u : TableState) → u.objects ≡ t.objects → u.made_objects ≡ t.made_objects
    → u.descriptions.made ≡ t.descriptions.made → NumbersStay t u
numbers_same t u objects made descriptions =
    record {
      numbers = λ node birth is. inl (ap (λ (os : List (Option ℕ)). slice_index_or os node None) (sym objects) ∙ is);
      objects = omega (arith, made);
      born = inl made;
      descriptions = omega (arith, descriptions);
    }

numbers_freed : (t u : TableState) (node : ℕ) → NumbersStay t u → u.made_objects ≡ t.made_objects
    → NumbersStay t (record u { objects = slice_set u.objects node None })
numbers_freed t u node stay made = record {
  numbers = λ n birth is. stay.numbers n birth (freed_slot u.objects node n birth is).0;
  objects = stay.objects;
  born = inl made;
  descriptions = stay.descriptions;
}

numbers_gone : (t u : TableState) (node : ℕ) → NumbersStay t u → u.made_objects ≡ t.made_objects
    → NumbersStay t (without_gone u node)
numbers_gone t u node stay made = over_gone (NumbersStay t) u node stay (λ gone. numbers_freed t u node stay made)

numbers_lost : (t u : TableState) (lost : Option ℕ) → NumbersStay t u
    → u.made_objects ≡ t.made_objects → NumbersStay t (without_lost u lost)
numbers_lost t u None stay made = stay
numbers_lost t u (Some node) stay made = numbers_gone t u node stay made

numbers_let_go : (t : TableState) (n key : ℕ) → NumbersStay t (let_go t n key)
numbers_let_go t n key =
    numbers_same t (let_go t n key) refl refl
    (over_holder (λ (m : DescriptionMap). m.made ≡ t.descriptions.made) t.descriptions key refl (λ more. refl))

numbers_closed : (t : TableState) (n key : ℕ) → NumbersStay t (closed t n key)
numbers_closed t n key =
    over_closed (NumbersStay t) t n key (numbers_let_go t n key)
    (λ node gone. numbers_freed t (let_go t n key) node (numbers_let_go t n key) refl)

born_along : (t u v : TableState) → v.objects ≡ u.objects → v.made_objects ≡ u.made_objects
    → (u.made_objects ≡ t.made_objects) ⊎ IsBorn t u → (v.made_objects ≡ t.made_objects) ⊎ IsBorn t v
born_along t u v objects made (inl same) = inl (made ∙ same)
born_along t u v objects made (inr b) =
    let at = λ (k : ℕ). ap (λ (os : List (Option ℕ)). slice_index_or os k None) objects in
    inr (record {
      node = b.node;
      free = b.free;
      here = at b.node ∙ b.here;
      others = λ other birth is. at other
          ∙ b.others other birth is;
      made = made ∙ b.made;
    })

-- a number more refers to a description that is there
numbers_shared : (t u : TableState) (n key : ℕ) → NumbersStay t u → NumbersStay t (shared u n key)
numbers_shared t u n key stay =
    record {
      numbers = stay.numbers;
      objects = stay.objects;
      born = born_along t u (shared u n key) refl refl stay.born;
      descriptions = stay.descriptions;
    }

-- ## Opening

-- the table where the object is there, in which no description was made
abbrev Ready : TableState → TableState → Type 0
Ready t u = NumbersStay t u × (u.descriptions.made ≡ t.descriptions.made)

-- what stands at a number once another one was taken
taken_or : (t : TableState) (node n birth : ℕ) → free_object t ≡ Some node → Taken t.objects node t.made_objects n birth
    → (slice_index_or t.objects n None ≡ Some birth) ⊎ ((free_object t ≡ Some n) × (birth ≡ t.made_objects))
taken_or t node n birth free (IsNew here is) = inr (free ∙ ap (λ (k : ℕ). Some k) (sym here), is)
taken_or t node n birth free (IsOld was) = inl was

ready_file : (t : TableState) (paths : PathMap) (node : ℕ) → IsSound t → IsNextObject t node
    → Ready t (with_file t paths node)
ready_file t paths node sound (low, free, next) =
    let long : length t.objects ≡ 48 = sound.object_numbers in
    let inside : node < length t.objects = omega (arith, low, long) in (
      record {
        numbers = λ n birth is. taken_or t node n birth next
            (taken_slot t.objects node t.made_objects n birth inside is);
        objects = omega arith;
        born = inr (record {
          node = node;
          free = next;
          here = get_or-set_same t.objects node (Some t.made_objects) None inside;
          others = λ other birth is. get_or-set_other t.objects node other (Some t.made_objects) None
              (λ same. none_taken other birth same is) ∙ is;
          made = refl;
        });
        descriptions = omega arith;
      },
      refl,
    )
  where
    none_taken : (other birth : ℕ) → other ≡ node → slice_index_or t.objects other None ≡ Some birth → ⊥
    none_taken other birth same is = none-some birth (sym (ap (λ (k : ℕ). slice_index_or t.objects k None) same ∙ free)
        ∙ is)

-- a description more
opened_stay : (t u after : TableState) (new : NewDescriptor) (which : End) → Ready t u → IsOpened u new which after
    → NumbersStay t after
opened_stay t u after new which ready (key, fresh, is) =
    subst (NumbersStay t) (sym is)
    (record {
      numbers = ready.0.numbers;
      objects = ready.0.objects;
      born = born_along t u _ refl refl ready.0.born;
      descriptions = omega (arith, ready.1);
    })

pair_stay : (t after : TableState) (one other : End × Access) (new : NewEnds) → IsSound t → IsNextObject t new.object
    → AreOpened t one other new after → NumbersStay t after
pair_stay t after one other new sound next (key, fresh, (later, fresh_too, is)) =
    let ready = ready_file t t.paths new.object sound next in
    subst (NumbersStay t) (sym is)
    (record {
      numbers = ready.0.numbers;
      objects = ready.0.objects;
      born = born_along t (with_object t new.object) _ refl refl ready.0.born;
      descriptions = omega arith;
    })

-- ## All changes

numbers-unchanged : (t : TableState) → NumbersStay t t
numbers-unchanged t = numbers_same t t refl refl refl

pub door_stay : (t : TableState) (c : Call) (new : NewDescriptor) (value : ℕ) (after : TableState) → IsSound t
    → IsNextObject t new.object
    → IsDoorOpened t c new value after → NumbersStay t after
door_stay t c new value after sound next is =
    opened_stay t (with_object t new.object) after new (part.Door (door_of c value))
    (ready_file t t.paths new.object sound next) is

pub numbers-stay : (t : TableState) (c : Call) (x : Change) (after : TableState) → IsSound t → CanChange t c x
    → Changed t c x after → NumbersStay t after
numbers-stay t c change.Nothing after sound can is = subst (NumbersStay t) (sym is) (numbers-unchanged t)
numbers-stay t c (change.Share n key) after sound can is =
    subst (NumbersStay t) (sym is) (numbers_shared t t n key (numbers-unchanged t))
numbers-stay t c (change.Close n key) after sound can is = subst (NumbersStay t) (sym is) (numbers_closed t n key)
numbers-stay t c (change.Replace n old_key key) after sound can is =
    subst (NumbersStay t) (sym is) (numbers_shared t (closed t n old_key) n key (numbers_closed t n old_key))
numbers-stay t c (change.SetFlags key append nonblock) after sound can is =
    subst (NumbersStay t) (sym is) (numbers_same t _ refl refl refl)
numbers-stay t c (change.AddFile object) after sound can is =
    subst (NumbersStay t) (sym is) (numbers_same t _ refl refl refl)
numbers-stay t c change.AddDirectory after sound can is =
    subst (NumbersStay t) (sym is) (numbers_same t _ refl refl refl)
numbers-stay t c (change.RemoveFile object) after sound can is =
    let less : TableState = with_paths t (unnamed t c) in
    subst (NumbersStay t) (sym is) (numbers_gone t less object (numbers_same t less refl refl refl) refl)
numbers-stay t c change.RemoveDirectory after sound can is =
    subst (NumbersStay t) (sym is) (numbers_same t _ refl refl refl)
numbers-stay t c (change.Rename object lost) after sound can is =
    let moved : TableState = with_paths t (renamed t c object) in
    subst (NumbersStay t) (sym is)
    (numbers_lost t moved lost (numbers_same t moved refl refl refl) refl)
numbers-stay t c (change.OpenFile new) after sound can is =
    opened_stay t t after new part.Only (numbers-unchanged t, refl) is
numbers-stay t c (change.MakeFile new) after sound can is =
    opened_stay t (with_file t (named t c (FileNode new.object)) new.object) after new part.Only
    (ready_file t (named t c (FileNode new.object)) new.object sound can.1) is
numbers-stay t c (change.MakePipe new) after sound can is =
    pair_stay t after (part.Read, ReadOnly) (part.Write, WriteOnly) new sound can.3 is
numbers-stay t c (change.MakeSockets new) after sound can is =
    pair_stay t after (part.Socket Side0, ReadWrite) (part.Socket Side1, ReadWrite) new sound can.3 is
