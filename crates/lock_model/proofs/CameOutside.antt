-- Outcomes come in the events of threads that are outside.
use Rattle.std.proofs.Common.{◌≡◌, ℕ, Some, true, false, refl, ap, ◌∙◌, ⊎_elim, ◌⊎◌, inl, inr}
use Rattle.std.proofs.lemmas.Bool.{cases_Bool, cases_eq}
use Rattle.lock_model.specs.Came.{CameOutside}
use Rattle.lock_model.specs.CallTable.{CallTable}
use Rattle.sequential_object.specs.declared.turn_end.TurnEnd.{TurnEnd}
use Rattle.sequential_object.specs.declared.turn_end.TurnEnd.TheVariants as turn_end
use Rattle.lock_model.specs.Machine.{Moved, Setup, advance, after_step, answered, attempt, can_advance, can_attempt}
use Rattle.lock_model.specs.Machine.{move, moves}
use Rattle.lock_model.specs.Machine.Event.{Advances, Attempts}
use Rattle.lock_model.specs.State.{Job, State, Thread, thread_of}
use Rattle.lock_model.specs.State.Phase.{Outside}
use Rattle.posix_terms.specs.Calls.{Call}
use Rattle.posix_terms.specs.declared.step.Step.{Step}
use Rattle.posix_terms.specs.declared.step.Step.TheVariants as step
use Rattle.lock_model.proofs.Attempt.{attempt_other, move_of}
use Rattle.lock_model.proofs.Commute.{advance_move, thread_advance}
use Rattle.lock_model.proofs.Diamond.{not_allowed}
use Rattle.lock_model.proofs.Follows.{attempt_tried}
use Rattle.lock_model.proofs.Growth.{at_moves}
use Rattle.lock_model.proofs.Turn.{thread_moved}

step_came : (calls : CallTable) (t : Thread) (x : Step) → (after_step calls t x).came ≡ t.came
step_came calls t (step.Work n) = refl
step_came calls t (step.Call c) = refl
step_came calls t step.End = refl

answered_came : (t : Thread) (c : Call) (n : ℕ) (a : TurnEnd) → (answered t c n a).came ≡ t.came
answered_came t c n (turn_end.Reply r) = refl
answered_came t c n (turn_end.Blocked b) = refl

move_came : (setup : Setup) (i : ℕ) (t : Thread) (m : Moved) → moves setup i t ≡ Some m
    → ((job : Job) → t.phase ≡ Outside job → ⊥) → m.thread.came ≡ t.came
move_came setup i t m h inside =
    at_moves setup i t (λ p n. ((job : Job) → p ≡ Outside job → ⊥) → n.thread.came ≡ t.came) m
    (record {
      steps = λ x q e. step_came setup.calls t x;
      begins = λ job e. refl;
      records = λ job o q f e. absurd (e job refl);
      grants = λ job e. answered_came t job.call _ (setup.calls.answer job.found job.call job.outcome job.carried);
      answers = λ job e. answered_came t job.call _ (setup.calls.answer job.found job.call job.outcome job.carried);
      agains = λ c b e. refl;
    })
    h inside

advanced_came : (setup : Setup) (s : State) (i : ℕ) → ((job : Job) → (thread_of s i).phase ≡ Outside job → ⊥)
    → (thread_of (advance setup i s) i).came ≡ (thread_of s i).came
advanced_came setup s i inside =
    ⊎_elim
    (λ (can : can_advance setup s i ≡ true).
    let m = move_of setup s i can in
    let there : thread_of (advance setup i s) i ≡ m.0.thread =
    ap (λ (z : State). thread_of z i) (advance_move setup i s ∙ ap (λ o. move i o s) m.1)
    ∙ thread_moved setup s i m.0 m.1 in
    ap (λ (t : Thread). t.came) there ∙ move_came setup i (thread_of s i) m.0 m.1 inside)
    (λ (off : can_advance setup s i ≡ false). ap (λ (z : State). (thread_of z i).came)
    (not_allowed setup (Advances i) s off))
    (cases_Bool (can_advance setup s i))

attempted_came : (setup : Setup) (s : State) (i : ℕ) → (thread_of (attempt setup i s) i).came ≡ (thread_of s i).came
attempted_came setup s i =
    ⊎_elim
    (λ (can : can_attempt setup s i ≡ true). (attempt_tried setup s i can).came)
    (λ (off : can_attempt setup s i ≡ false). ap (λ (z : State). (thread_of z i).came)
    (not_allowed setup (Attempts i) s off))
    (cases_Bool (can_attempt setup s i))

pub came_outside : CameOutside
came_outside setup s (Advances i) k inside = by_thread (cases_eq i k)
  where
    by_thread : (i ≡ k) ⊎ (i ≡ k → ⊥) → (thread_of (advance setup i s) k).came ≡ (thread_of s k).came
    by_thread (inl is) = ap (λ (n : ℕ). (thread_of (advance setup n s) k).came) is
        ∙ advanced_came setup s k (inside (ap Advances is))
    by_thread (inr apart) = ap (λ (t : Thread). t.came) (thread_advance setup i k s apart)
came_outside setup s (Attempts i) k inside = by_thread (cases_eq i k)
  where
    by_thread : (i ≡ k) ⊎ (i ≡ k → ⊥) → (thread_of (attempt setup i s) k).came ≡ (thread_of s k).came
    by_thread (inl is) = ap (λ (n : ℕ). (thread_of (attempt setup n s) k).came) is ∙ attempted_came setup s k
    by_thread (inr apart) = ap (λ (t : Thread). t.came) (attempt_other setup i k s apart)
