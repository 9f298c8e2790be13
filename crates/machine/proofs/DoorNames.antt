-- Which numbers are those of doors, as the table changes.
use Rattle.std.proofs.Common.{◌≡◌, ◌⊎◌, ℕ, ◌<◌, ◌≤◌, List, [], ◌∷◌, length, Option, Some, None, Bool, true, false}
use Rattle.std.proofs.Common.{is_some, if◌then◌else◌, inl, inr, sym, refl, ap, ◌∙◌, subst, ⊎_elim, arith}
use Rattle.std.proofs.lemmas.Bool.{cases_lt, false≢true}
use Rattle.std.proofs.lemmas.List.{get_or_past}
use Rattle.std.specs.FinMap as fin
use Rattle.std.specs.Prelude.{slice_index_or}
use Rattle.call_turns.specs.Doors.{KeepsDoors}
use Rattle.call_turns.specs.Store.{Stands, Stored}
use Rattle.descriptor_table.specs.Doors.{AddsOne, HaveOne, WasThere}
use Rattle.file_descriptions.specs.declared.description.Description.{Description}
use Rattle.posix_terms.specs.declared.limits.TheConstants.Limits as limit
use Rattle.posix_terms.specs.declared.object.Door.{Door}
use Rattle.sequential_object.specs.Deciding.{leads_outside}
use Rattle.sequential_object.specs.Numbers.{first_free, number_in, number_of}
use Rattle.sequential_object.specs.Worlds.{World}
use Rattle.machine.specs.DoorsThere.{Names}

-- ## No door is new

-- a description that was there named the door
was_named : (old new : Stored) (n : ℕ) (d : Door) (x : Names new n d)
    → WasThere old.table.descriptions x.key x.description → Names old n d
was_named old new n d x was = record {
  key = x.key;
  description = was.before;
  there = was.there;
  own = was.node ∙ x.own;
  which = was.«end» ∙ x.which;
}

pub names_kept : (old new : Stored) → KeepsDoors old new → (n : ℕ) (d : Door) → Names new n d → Names old n d
names_kept old new adds n d x = was_named old new n d x (adds x.key x.description x.there (ap leads_outside x.which))

pub one_kept : (old new : Stored) → KeepsDoors old new → HaveOne old.table.descriptions → HaveOne new.table.descriptions
one_kept old new adds one q r e f at_q at_r same out also =
    let left = adds q e at_q out in
    let right = adds r f at_r also in
    one q r left.before right.before left.there right.there (left.node ∙ same ∙ sym right.node)
    (ap leads_outside left.«end» ∙ out) (ap leads_outside right.«end» ∙ also)

-- ## One is

pub names_one : (old new : Stored) (node : ℕ) → AddsOne old.table.descriptions node new.table.descriptions → (n : ℕ)
    (d : Door) → Names new n d → Names old n d ⊎ (n ≡ node)
names_one old new node opens n d x =
    ⊎_elim (λ was. inl (was_named old new n d x was)) (λ own. inr (sym x.own ∙ own.1))
    (opens.adds x.key x.description x.there (ap leads_outside x.which))

-- its number was free
pub one_opened : (old new : Stored) (w : World) (node : ℕ) → Stands old w
    → slice_index_or old.table.objects node None ≡ None → AddsOne old.table.descriptions node new.table.descriptions
    → HaveOne old.table.descriptions → HaveOne new.table.descriptions
one_opened old new w node stands free opens one q r e f at_q at_r same out also =
    by_two (opens.adds q e at_q out) (opens.adds r f at_r also)
  where
    -- no description was of its object
    mixed : {A : Type 0} (k : ℕ) (x : Description) → WasThere old.table.descriptions k x → x.node ≡ node → A
    mixed k x was is = absurd (false≢true
        (sym (ap (λ (n : ℕ). is_some (slice_index_or old.table.objects n None)) (was.node ∙ is) ∙ ap is_some free)
        ∙ stands.sound.described_objects k was.before was.there))

    by_two : WasThere old.table.descriptions q e ⊎ ((q ≡ opens.key) × (e.node ≡ node))
        → WasThere old.table.descriptions r f ⊎ ((r ≡ opens.key) × (f.node ≡ node)) → q ≡ r
    by_two (inl left) (inl right) =
        one q r left.before right.before left.there right.there (left.node ∙ same ∙ sym right.node)
        (ap leads_outside left.«end» ∙ out) (ap leads_outside right.«end» ∙ also)
    by_two (inl left) (inr new) = mixed q e left (same ∙ new.1)
    by_two (inr new) (inl right) = mixed r f right (sym same ∙ new.1)
    by_two (inr new) (inr other) = new.0 ∙ sym other.0

-- ## The number of the object that is born next

-- it is free
pub next_free : (h : Stored) (w : World) → Stands h w
    → slice_index_or h.table.objects (number_of w w.object.next_object) None ≡ None
next_free h w stands =
    ap (λ (xs : List (Option ℕ)). slice_index_or xs (number_of w w.object.next_object) None) (sym stands.numbers)
    ∙ ap (λ (b : Bool).
    slice_index_or w.numbers (if b then number_in w.numbers w.object.next_object else first_free w.numbers) None)
    (unborn (is_some (fin.get w.object.objects w.object.next_object)) refl) ∙ free w.numbers
  where
    unborn : (b : Bool) → is_some (fin.get w.object.objects w.object.next_object) ≡ b
        → is_some (fin.get w.object.objects w.object.next_object) ≡ false
    unborn true is =
        let z = stands.shows.numbered w.object.next_object is in
        let l = stands.sound.born z.0 w.object.next_object z.1 in
        let same = stands.shows.next_object in
        absurd (omega arith)
    unborn false is = is

    free : (xs : List (Option ℕ)) → slice_index_or xs (first_free xs) None ≡ None
    free [] = refl
    free (None ∷ xs) = refl
    free (Some o ∷ xs) = free xs

-- the number of a door is that of an object
pub names_within : (h : Stored) (w : World) → Stands h w → (n : ℕ) (d : Door) → Names h n d → n < limit.OBJECTS
names_within h w stands n d x =
    ⊎_elim (λ (l : n < length h.table.objects). subst (λ (m : ℕ). n < m) stands.sound.object_numbers l)
    (λ (past : length h.table.objects ≤ n). absurd (false≢true
    (sym (ap is_some (ap (λ (m : ℕ). slice_index_or h.table.objects m None) x.own
    ∙ get_or_past h.table.objects n None past))
    ∙ stands.sound.described_objects x.key x.description x.there)))
    (cases_lt n (length h.table.objects))
