-- A walk over the history of a run for the places of one thread.
use Rattle.std.proofs.Common.{◌≡◌, ◌∙◌, ◌+◌, ◌<◌, ◌≤◌, ◌∷◌, ◌++◌, ℕ, [], Bool, true, false, not}
use Rattle.std.proofs.Common.{List, Option, Some, None, ap, append_assoc, arith, refl, sym, if◌then◌else◌, add-one}
use Rattle.std.proofs.Common.{◌-◌, suc, drop, length, slice_index_or}
use Rattle.std.proofs.Math.Seq.{drop-cons}
use Rattle.std.specs.Prelude.{flat_map, is_some}
use Rattle.std.specs.List.{range_with_len}
use Rattle.std.specs.Option.{option_to_list}
use Rattle.posix_terms.specs.declared.reply.ObjectKind.{ObjectKind}
use Rattle.posix_terms.specs.declared.transcript.HistoryRow.{HistoryRow}
use Rattle.fault_injection.specs.Objects.{AreObjects}
use Rattle.fault_injection.specs.Places.{has_reply, is_of, object_of, places_from, takes_more}
use Rattle.fault_injection.specs.Walking.{places_left}
use Rattle.fault_injection.specs.declared.objects.Objects.{Objects}
use Rattle.fault_injection.specs.declared.places.Place.{Place}

-- how far the walk has come: after some turns, with these later ones to come, these places are
-- found; in the end it is all
pub record Walked
    (thread number : ℕ) (last : Option Place) (objects : Objects) (found : List Place)
    (later : List HistoryRow) (all : List Place) : Type 0 where
  pub past : List HistoryRow
  pub are : AreObjects past objects
  pub whole : found ++ places_left thread number last past later ≡ all

-- the place of the outcome of this turn
abbrev pub place_at : ℕ → ℕ → HistoryRow → List HistoryRow → Place
place_at thread number row past =
    record { thread = thread; number = number; object = object_of row.call past }

-- after a turn of another thread
other_left : (thread number : ℕ) (last : Option Place) (row : HistoryRow)
    (past later : List HistoryRow) → is_of thread row ≡ false
    → places_left thread number last past (row ∷ later)
    ≡ places_left thread number last (row ∷ past) later
other_left thread number None row past later other = rw other refl
other_left thread number (Some place) row past later other = rw other refl

-- after a turn of this thread with a reply
reply_left : (thread number : ℕ) (last : Option Place) (row : HistoryRow)
    (past later : List HistoryRow) (came : Bool) → is_of thread row ≡ true
    → has_reply row ≡ true → is_some row.outcome ≡ came
    → places_left thread number last past (row ∷ later)
    ≡ option_to_list (if came then Some (place_at thread number row past) else last)
    ++ places_from thread (if came then number + 1 else number) (row ∷ past) later
reply_left thread number None row past later true own reply is = rw (own, reply, is) refl
reply_left thread number None row past later false own reply is = rw (own, reply, is) refl
reply_left thread number (Some place) row past later true own reply is = rw (own, reply, is) refl
reply_left thread number (Some place) row past later false own reply is = rw (own, reply, is) refl

not_if : (b : Bool) (place : Place) (rest : List Place)
    → (if not b then place ∷ [] else []) ++ rest ≡ (if b then [] else place ∷ []) ++ rest
not_if true place rest = refl
not_if false place rest = refl

-- after a turn of this thread without one
again_left : (thread number : ℕ) (last : Option Place) (row : HistoryRow)
    (past later : List HistoryRow) (came : Bool) → is_of thread row ≡ true
    → has_reply row ≡ false → is_some row.outcome ≡ came
    → places_left thread number last past (row ∷ later)
    ≡ places_left thread (if came then number + 1 else number)
    (if came then Some (place_at thread number row past) else last) (row ∷ past) later
again_left thread number None row past later true own none is =
    rw (own, none, is)
    (not_if (takes_more thread later) (place_at thread number row past)
    (places_from thread (number + 1) (row ∷ past) later))
again_left thread number None row past later false own none is = rw (own, none, is) refl
again_left thread number (Some place) row past later true own none is =
    rw (own, none, is)
    (not_if (takes_more thread later) (place_at thread number row past)
    (places_from thread (number + 1) (row ∷ past) later))
again_left thread number (Some place) row past later false own none is = rw (own, none, is) refl

-- ## One step of the walk

-- the turns from one on begin with it
pub at_row : (history : List HistoryRow) (i : ℕ) (row : HistoryRow) → i < length history
    → row ≡ slice_index_or history i row → drop i history ≡ row ∷ drop (i + 1) history
at_row history i row inside is =
    let here = drop-cons history i row inside in
    rw (add-one, here, ← is) refl

-- the table follows a turn
abbrev pub Follows : HistoryRow → Objects → Objects → Type 0
Follows row objects next =
    (past : List HistoryRow) → AreObjects past objects → AreObjects (row ∷ past) next

-- this is what a read or a write goes by at a turn
abbrev pub GoesBy : HistoryRow → Objects → Option ObjectKind → Type 0
GoesBy row objects object =
    (past : List HistoryRow) → AreObjects past objects → object ≡ object_of row.call past

pub past_other : (thread number : ℕ) (last : Option Place) (objects next : Objects)
    (found : List Place) (row : HistoryRow) (later : List HistoryRow) (all : List Place)
    → is_of thread row ≡ false → Follows row objects next
    → Walked thread number last objects found (row ∷ later) all
    → Walked thread number last next found later all
past_other thread number last objects next found row later all other follows s = record {
  past = row ∷ s.past;
  are = follows s.past s.are;
  whole = ap (λ (left : List Place). found ++ left)
      (sym (other_left thread number last row s.past later other))
      ∙ s.whole;
}

pub past_again : (thread number : ℕ) (last : Option Place) (objects next : Objects)
    (found : List Place) (row : HistoryRow) (later : List HistoryRow) (all : List Place)
    (object : Option ObjectKind) (last_now : Option Place) (number_now : ℕ)
    → last_now ≡ (if is_some row.outcome
    then Some (record { thread = thread; number = number; object = object }) else last)
    → number_now ≡ (if is_some row.outcome then number + 1 else number)
    → is_of thread row ≡ true → has_reply row ≡ false
    → GoesBy row objects object → Follows row objects next
    → Walked thread number last objects found (row ∷ later) all
    → Walked thread number_now last_now next found later all
past_again thread number last objects next found row later all object last_now number_now
    last_is number_is own none by follows s = record {
      past = row ∷ s.past;
      are = follows s.past s.are;
      whole = rw (last_is, number_is, by s.past s.are)
          (ap (λ (left : List Place). found ++ left)
          (sym (again_left thread number last row s.past later (is_some row.outcome) own none refl))
          ∙ s.whole);
    }

pub past_reply : (thread number : ℕ) (last : Option Place) (objects next : Objects)
    (found : List Place) (row : HistoryRow) (later : List HistoryRow) (all : List Place)
    (object : Option ObjectKind) (last_now : Option Place) (number_now : ℕ)
    → last_now ≡ (if is_some row.outcome
    then Some (record { thread = thread; number = number; object = object }) else last)
    → number_now ≡ (if is_some row.outcome then number + 1 else number)
    → is_of thread row ≡ true → has_reply row ≡ true
    → GoesBy row objects object → Follows row objects next
    → Walked thread number last objects found (row ∷ later) all
    → Walked thread number_now None next (found ++ option_to_list last_now) later all
past_reply thread number last objects next found row later all object last_now number_now
    last_is number_is own reply by follows s = record {
      past = row ∷ s.past;
      are = follows s.past s.are;
      whole = rw (last_is, number_is, by s.past s.are)
          (append_assoc found _ _
          ∙ (ap (λ (left : List Place). found ++ left)
          (sym (reply_left thread number last row s.past later (is_some row.outcome) own reply refl))
          ∙ s.whole));
    }

-- at the end of the history
pub at_end : (thread number : ℕ) (last : Option Place) (objects : Objects)
    (found : List Place) (all : List Place)
    → Walked thread number last objects found [] all → found ++ option_to_list last ≡ all
at_end thread number None objects found all s = s.whole
at_end thread number (Some place) objects found all s = s.whole

-- an outcome moves the number by one
pub by_one : (b : Bool) (number i : ℕ) → number ≤ i → (if b then number + 1 else number) ≤ i + 1
by_one true number i few = omega (arith, few)
by_one false number i few = omega (arith, few)

-- the places of the threads from one on begin with its own
pub from_thread : (f : ℕ → List Place) (thread threads : ℕ) → thread < threads
    → flat_map f (range_with_len thread (threads - thread))
    ≡ f thread ++ flat_map f (range_with_len (thread + 1) (threads - (thread + 1)))
from_thread f thread threads inside =
    let more : threads - thread ≡ suc (threads - (thread + 1)) = omega (arith, inside) in
    rw more refl
