-- What an event of the machine gave its driver.
use Rattle.std.proofs.Common.{◌≡◌, Bool, true, Option, None, is_some, sym, refl, ◌∙◌, subst}
use Rattle.std.proofs.lemmas.Bool.{false≢true}
use Rattle.std.specs.Prelude.{Result, Ok, Err}
use Rattle.lock_machine.specs.Refusals.{Comes, Tried, WantsNone, has_answer, is_outside, works}
use Rattle.lock_machine.specs.Whole.{Whole}
use Rattle.lock_machine.specs.declared.refused.LockRefused.{LockRefused}
use Rattle.lock_machine.specs.declared.refused.LockRefused.TheVariants as refused
use Rattle.lock_machine.specs.declared.thread.Outing.{Outing}
use Rattle.lock_machine.specs.declared.thread.Phase.{Phase}
use Rattle.lock_machine.specs.declared.thread.Phase.TheVariants as phase
use Rattle.call_machine.specs.Driven.{IsTold}
use Rattle.call_machine.proofs.Playing.{is_calling}

-- an event that has its phase
pub comes_told : {A : Type 0} (right : Bool) (r : Result A LockRefused) (o : Option A) (old new : Whole)
    (made : Option A
    → Type 0) → right ≡ true → Comes right r old new made → IsTold r o → made o
comes_told right (Ok a) o old new made there h told = subst made (sym told) h.1
comes_told right (Err refused.WrongPhase) o old new made there h told = absurd (false≢true (sym h.0 ∙ there))
comes_told right (Err refused.ClockFull) o old new made there h told = subst made (sym told) h.2
comes_told right (Err refused.Memory) o old new made there h told = absurd told

-- an event that wants no memory and was refused gave nothing
pub refused_told : (A : Type 0) (e : LockRefused) → WantsNone {A = A} (Err e) → IsTold {A = A} (Err e) None
refused_told A refused.WrongPhase h = refl
refused_told A refused.ClockFull h = refl
refused_told A refused.Memory h = h

pub tried_told : {A : Type 0} (r : Result A LockRefused) (o : Option A) (made : Bool → Type 0) → Tried r made
    → IsTold r o
    → made (is_some o)
tried_told (Ok a) o made h told = let P : Option _ → Type 0 = λ x. made (is_some x) in subst P (sym told) h
tried_told (Err refused.WrongPhase) o made h told = let P : Option _ → Type 0 = λ x. made (is_some x) in
    subst P (sym told) h
tried_told (Err refused.ClockFull) o made h told = let P : Option _ → Type 0 = λ x. made (is_some x) in
    subst P (sym told) h
tried_told (Err refused.Memory) o made h told = absurd told

-- ## Phases

pub working_phase : (p : Phase) → works p ≡ true → p ≡ phase.Working
working_phase phase.Working h = refl
working_phase p h = absurd (false≢true h)

pub answering : (p : Phase) → has_answer p ≡ true → is_calling p ≡ true
answering (phase.Granted row object ends) h = refl
answering (phase.Recorded o) h = refl
answering p h = absurd (false≢true h)

pub outside_phase : (p : Phase) → is_outside p ≡ true → (o : Outing) × (p ≡ phase.Outside o)
outside_phase (phase.Outside o) h = (o, refl)
outside_phase p h = absurd (false≢true h)
