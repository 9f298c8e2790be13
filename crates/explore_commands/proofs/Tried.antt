-- What is shown of a trial holds of what is tried.
use Rattle.std.proofs.Common.{◌≡◌, ℕ, List, refl, subst}
use Rattle.std.specs.Prelude.{IfOk, Result, Bool, true, false, not, Option, Some, None, is_some}
use Rattle.std.specs.Prelude.{option_map}
use Rattle.posix_terms.specs.declared.outcome.Given.{Given}
use Rattle.posix_terms.specs.declared.transcript.Settings.{Settings}
use Rattle.explorer.specs.Subject.{Subject}

-- for the texts and the outcomes, which are the trial's
pub of_tried : {X E : Type 0} (P : Subject → X → Type 0) (result : Result X E)
    (texts given : List (List ℕ)) (outcomes from : List (List Given)) (settings : Settings)
    → texts ≡ given → outcomes ≡ from
    → IfOk result (P (record { texts = texts; outcomes = outcomes; settings = settings }))
    → IfOk result (P (record { texts = given; outcomes = from; settings = settings }))
of_tried P result texts given outcomes from settings one other holds =
    subst
    (λ (all : List (List ℕ)).
    IfOk result (P (record { texts = all; outcomes = from; settings = settings })))
    one
    (subst
    (λ (all : List (List Given)).
    IfOk result (P (record { texts = texts; outcomes = all; settings = settings })))
    other holds)

-- a log is given where what is read of one is
pub alone_is : {A B : Type 0} (f : A → B) (log : Option A) (alone : Bool)
    → is_some log ≡ not alone → alone ≡ not (is_some (option_map f log))
alone_is f None true is = refl
alone_is f None false is = absurd (cc is)
alone_is f (Some log) true is = absurd (cc is)
alone_is f (Some log) false is = refl
