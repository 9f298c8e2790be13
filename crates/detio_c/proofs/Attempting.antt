-- Attempts, one by one.
use Rattle.std.proofs.Common.{◌≡◌, ◌∙◌, ℕ, suc, Bool, true, Option, Some, Result, Ok, IsSomeAnd}
use Rattle.std.proofs.Common.{arith, refl, sym, subst}
use Rattle.lock_machine.specs.Views.{clocks_of}
use Rattle.lock_machine.specs.declared.refused.Attempt.{Attempt}
use Rattle.lock_model.specs.Machine.Event.{Attempts}
use Rattle.logical_clocks.specs.TurnOrder.{turn_holder}
use Rattle.machine.specs.Events.{Comes}
use Rattle.machine.specs.Runs.Coming.{Nothing}
use Rattle.machine.specs.Shown.{Shown}
use Rattle.machine.specs.declared.refused.Refused.{Refused}
use Rattle.detio_c.specs.Promise.{GrowsBy, HasAttempted, LeadsBy, MayHaveAttempted}

-- an event that whoever has the turn made is its attempt
pub has_attempted : (right : Bool) (old new : Shown ℕ) {i : ℕ} {holder : Option ℕ} {made : Result Attempt Refused}
    {a : Attempt}
    → holder ≡ turn_holder (clocks_of old.whole.threads) → holder ≡ Some i → made ≡ Ok a
    → Comes right Nothing (Attempts i) made old new → new ≡ record old { whole = new.whole }
    → HasAttempted old new
has_attempted right old new {i} has_turn is_there is_made comes rest =
    subst (λ h. IsSomeAnd h (λ j. GrowsBy Nothing (Attempts j) (Some old) (Some new))) (sym is_there ∙ has_turn)
    ((subst (λ r. Comes right Nothing (Attempts i) r old new) is_made comes).2, rest)

-- the first attempt
pub first : (made : Bool) (old new : Shown ℕ) → made ≡ true → MayHaveAttempted made old new → LeadsBy 1 old new
first made old new is by =
    (1, omega arith, (old, refl, subst (λ b. MayHaveAttempted b old new) is by))

-- one more
pub another : (made : Bool) (old between new : Shown ℕ) → LeadsBy 1 old between → made ≡ true
    → MayHaveAttempted made between new → LeadsBy 1 old new
another made old between new led is by =
    (suc led.0, omega arith, (between, led.2, subst (λ b. MayHaveAttempted b between new) is by))
