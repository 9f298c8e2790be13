-- An attempt that is refused, and an outcome for whose record the log has no room.
use Rattle.std.proofs.Common.{◌≡◌, ℕ, zero, suc, Bool, true, false, List, length, Option, Some, None}
use Rattle.std.proofs.Common.{Result, Err, IsSomeAnd, is_some, ap, arith, refl, sym, subst, ◌∙◌}
use Rattle.std.specs.Prelude.{◌&&◌}
use Rattle.std.proofs.lemmas.Bool.{true≢false}
use Rattle.std.proofs.lemmas.Option.{none-some, same_Some}
use Rattle.c_words.specs.Faults.{code_of}
use Rattle.c_words.specs.declared.fault.LibraryFault.{LibraryFault}
use Rattle.c_words.specs.declared.fault.LibraryFault.TheVariants as fault
use Rattle.lock_machine.specs.Refusals.{phase_at, wants_lock}
use Rattle.lock_machine.specs.Views.{clocks_of}
use Rattle.lock_model.specs.Machine.Event.{Attempts}
use Rattle.logical_clocks.specs.TurnOrder.{first_below, first_or, has_turn, turn_holder}
use Rattle.machine.specs.Events.{Comes, Refuses, WantsNone}
use Rattle.machine.specs.Runs.{IsForbidden}
use Rattle.machine.specs.Runs.Coming.{Nothing}
use Rattle.machine.specs.Shown.{Shown}
use Rattle.machine.specs.declared.refused.Refused.{Refused}
use Rattle.machine.specs.declared.refused.Refused.TheVariants as refused
use Rattle.posix_terms.specs.declared.outcome.Outcome.{Outcome}
use Rattle.detio_c.specs.Faults.{fault_of}
use Rattle.detio_c.specs.Promise.{FillsLog}
use Rattle.detio_c.specs.Refused.{RefusesAttempt}

found : (n k : ℕ) (p : ℕ → Bool) (before : Option ℕ) (b : Bool) → (before ≡ Some k → p k ≡ true) → p n ≡ b
    → first_or before b n ≡ Some k → p k ≡ true
found n k p (Some j) b earlier here is = earlier is
found n k p None true earlier here is = subst (λ x. p x ≡ true) (same_Some n k is) here
found n k p None false earlier here is = absurd (none-some k is)

first_holds : (n k : ℕ) (p : ℕ → Bool) → first_below n p ≡ Some k → p k ≡ true
unfolding first_below
first_holds zero k p is = absurd (none-some k is)
first_holds (suc n) k p is = found n k p (first_below n p) (p n) (first_holds n k p) refl is

holds : (clocks : List (Option ℕ)) (i : ℕ) → turn_holder clocks ≡ Some i → has_turn clocks i ≡ true
unfolding turn_holder
holds clocks i is = first_holds (length clocks) i (has_turn clocks) is

-- who has the turn, and is at the phase for an attempt, has both
pub both : (b : Bool) (clocks : List (Option ℕ)) (i : ℕ) → b ≡ true → turn_holder clocks ≡ Some i
    → (b && has_turn clocks i) ≡ true
both b clocks i right is = subst (λ x. (x && has_turn clocks i) ≡ true) (sym right) (holds clocks i is)

-- an attempt of whoever has the turn, which wants a lock, is refused for a stop or a number
pub attempt : {A : Type 0} (right : Bool) (i : ℕ) (made : Result A Refused) (e : Refused) (m new : Shown ℕ)
    → turn_holder (clocks_of m.whole.threads) ≡ Some i → wants_lock (phase_at m.whole i) ≡ true → right ≡ true
    → WantsNone made → Comes right Nothing (Attempts i) made m new → made ≡ Err e → RefusesAttempt (fault_of e) m
attempt {A} right i made e m new holder wants is none comes was =
    by e (subst WantsNone was none) (subst (λ r. Comes right Nothing (Attempts i) r m new) was comes)
  where
    by : (e : Refused) → WantsNone {A = A} (Err e) → Comes {D = ℕ} {A = A} right Nothing (Attempts i) (Err e) m new
        → RefusesAttempt (fault_of e) m
    by (refused.Stopped cause) none h = ap is_some h.0
    by refused.WrongPhase none h = absurd (true≢false (sym is ∙ h.1))
    by refused.ClockFull none h = (
      h.0,
      subst (λ o. IsSomeAnd o (λ j. (wants_lock (phase_at m.whole j) ≡ true)
          × IsForbidden Nothing (Attempts j) m.whole)) (sym holder) (wants, h.2),
    )
    by refused.Memory none h = none
    by refused.Sink none h = h

-- an outcome that the machine refused since its log has no room
pub filled : (came : Option Outcome) (o : Outcome) (i : ℕ) (cause : Refused) (f : LibraryFault)
    (there : Option (Shown ℕ)) (old new : Shown ℕ) → came ≡ Some o → there ≡ Some old → f ≡ fault_of cause
    → Refuses i o cause old new → f ≡ fault.LogFull → FillsLog came i there (Some new)
filled came o i cause f there old new is is_there says h full =
    subst (λ c. FillsLog c i there (Some new)) (sym is)
    (subst (λ x. FillsLog (Some o) i x (Some new)) (sym is_there) (by cause h (ap code_of (sym says ∙ full))))
  where
    by : (cause : Refused) → Refuses i o cause old new → code_of (fault_of cause) ≡ 9
        → FillsLog (Some o) i (Some old) (Some new)
    by (refused.Stopped why) h same = absurd (omega arith)
    by refused.WrongPhase h same = absurd (omega arith)
    by refused.ClockFull h same = absurd (omega arith)
    by refused.Memory h same = absurd (omega arith)
    by refused.Sink h same = h
