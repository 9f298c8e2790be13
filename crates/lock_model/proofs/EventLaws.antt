-- What one event does to the threads.
use Rattle.std.proofs.Common.{◌≡◌, ℕ, ◌≤◌, length, nat_le, Option, Some, None, true, false, refl, sym, ap, ◌∙◌, subst}
use Rattle.std.proofs.Common.{⊎_elim}
use Rattle.std.proofs.lemmas.Bool.{cases_Bool, leb-true}
use Rattle.std.proofs.lemmas.List.{length-set}
use Rattle.lock_model.specs.Events.{EventLaws, IsMoved, thread_in}
use Rattle.lock_model.specs.Events.IsMoved.{AnswersGranted, AnswersRecorded, AsksStep, GetsOutcome, GoesOut, MakesAgain}
use Rattle.lock_model.specs.Machine.{Event, Moved, Setup, advance, can_advance, can_attempt, happens, is_allowed, move}
use Rattle.lock_model.specs.Machine.{moves}
use Rattle.lock_model.specs.Machine.Event.{Advances, Attempts}
use Rattle.lock_model.specs.State.{State, Thread, thread_of}
use Rattle.lock_model.proofs.Attempt.{attempt_can, attempt_not, attempt_other, can_out, move_of}
use Rattle.lock_model.proofs.Commute.{advance_move, thread_advance}
use Rattle.lock_model.proofs.Diamond.{not_allowed}
use Rattle.lock_model.proofs.Ends.{attempt_clock}
use Rattle.lock_model.proofs.Follows.{attempt_tried, calls_push}
use Rattle.lock_model.proofs.Growth.{at_moves}
use Rattle.lock_model.proofs.Plain.{next_allowed}
use Rattle.lock_model.proofs.Turn.{moves_out, thread_moved}

pub event_count : (setup : Setup) (s : State) (e : Event) → length (happens setup e s).threads ≡ length s.threads
event_count setup s (Advances i) = ap (λ (z : State). length z.threads) (advance_move setup i s)
    ∙ by_move (moves setup i (thread_of s i))
  where
    by_move : (o : Option Moved) → length (move i o s).threads ≡ length s.threads
    by_move None = refl
    by_move (Some m) = length-set s.threads i m.thread
event_count setup s (Attempts i) =
    ⊎_elim
    (λ (can : can_attempt setup s i ≡ true). (attempt_clock setup s i can).0)
    (λ (off : can_attempt setup s i ≡ false). ap (λ (z : State). length z.threads) (attempt_not setup i s off))
    (cases_Bool (can_attempt setup s i))

event_others : (setup : Setup) (s : State) (e : Event) (k : ℕ) → (thread_in e ≡ k → ⊥)
    → thread_of (happens setup e s) k ≡ thread_of s k
event_others setup s (Advances i) k apart = thread_advance setup i k s apart
event_others setup s (Attempts i) k apart = attempt_other setup i k s apart

-- what thread i is after its event
moved_thread : (setup : Setup) (s : State) (i : ℕ) (m : Moved) → moves setup i (thread_of s i) ≡ Some m
    → thread_of (advance setup i s) i ≡ m.thread
moved_thread setup s i m e = ap (λ (z : State). thread_of z i) (advance_move setup i s
    ∙ ap (λ (o : Option Moved). move i o s) e) ∙ thread_moved setup s i m e

event_room : (setup : Setup) (s : State) (e : Event) → is_allowed setup e s ≡ true
    → (thread_of (happens setup e s) (thread_in e)).clock ≤ setup.limits.clock_limit
event_room setup s (Advances i) can =
    let m = move_of setup s i can in
    subst (λ (t : Thread). t.clock ≤ setup.limits.clock_limit) (sym (moved_thread setup s i m.0 m.1))
    (moves_out setup i (thread_of s i) m.0 m.1).1
event_room setup s (Attempts i) can =
    leb-true _ _ (ap (λ (z : State). nat_le (thread_of z i).clock setup.limits.clock_limit) (attempt_can setup i s can)
    ∙ (can_out setup s i can).room)

move_is : (setup : Setup) (i : ℕ) (t : Thread) (m : Moved) → moves setup i t ≡ Some m → IsMoved setup i t m.thread
move_is setup i t m h =
    at_moves setup i t (λ p n. p ≡ t.phase → IsMoved setup i t n.thread) m
    (record {
      steps = λ x q e. AsksStep x (sym e) q refl;
      begins = λ job e. GoesOut job (sym e) refl;
      records = λ job o q f e. GetsOutcome job o (sym e) q f refl;
      grants = λ job e. AnswersGranted job (sym e) refl;
      answers = λ job e. AnswersRecorded job (sym e) refl;
      agains = λ c b e. MakesAgain c b (sym e) refl;
    })
    h refl

event_moved : (setup : Setup) (s : State) (i : ℕ) → can_advance setup s i ≡ true
    → IsMoved setup i (thread_of s i) (thread_of (advance setup i s) i)
event_moved setup s i can =
    let m = move_of setup s i can in
    subst (IsMoved setup i (thread_of s i)) (sym (moved_thread setup s i m.0 m.1))
    (move_is setup i (thread_of s i) m.0 m.1)

pub event_laws : EventLaws
event_laws =
    record {
      not_allowed = not_allowed;
      next_allowed = next_allowed;
      count = event_count;
      others = event_others;
      room = event_room;
      moved = event_moved;
      wanting = λ setup s i can. (can_out setup s i can).wanting;
      tried = attempt_tried;
      costs = λ setup s i can. (attempt_clock setup s i can).1;
      calls = calls_push;
    }
