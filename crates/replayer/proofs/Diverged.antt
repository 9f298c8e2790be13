-- Where the plain run by a log comes to an outcome that does not answer.
use Rattle.std.proofs.Common.{◌≡◌, ℕ, ◌+◌, Bool, true, false, not, length, slice_get, Option, Some, None, refl, sym, ap}
use Rattle.std.proofs.Common.{◌∙◌, subst, ⊎_elim, inl, inr}
use Rattle.std.proofs.lemmas.Bool.{false≢true, true≢false, cases_Bool, cond-true, cond-false}
use Rattle.std.proofs.lemmas.Option.{none-some, same_Some}
use Rattle.call_machine.specs.Diverging.{diverging, if_diverging}
use Rattle.call_machine.specs.Setup.{Inputs, first_state, script_of, setup_of}
use Rattle.lock_machine.specs.Diverging.{diverging_in, is_diverging}
use Rattle.lock_model.specs.Came.{StaysOrFits}
use Rattle.lock_model.specs.Machine.{Setup, fits_job}
use Rattle.lock_model.specs.Programs.{Finite}
use Rattle.lock_model.specs.Schedule.{EndsIn, plain_run}
use Rattle.lock_model.specs.State.{Job, Phase, State, start, thread_of}
use Rattle.lock_model.specs.State.Phase.{Outside}
use Rattle.sequential_object.specs.Worlds.{World}
use Rattle.posix_terms.specs.declared.outcome.Given.{Given}
use Rattle.replayer.proofs.CameAgain.{came_supplied, diverged_outside}
use Rattle.replayer.specs.Known.{KnownOfThreads}

-- ## The end of a plain run

-- scripts come to their end, and so does each plain run of them
pub plain_end : KnownOfThreads → (input : Inputs) → (last : State) × EndsIn (setup_of input) (first_state input) last
plain_end known input =
    let finite : Finite (let z = setup_of input in z.supply) =
    record {
      bound = λ i. (known.scripts_end (script_of input i)).0;
      ends = λ i. (known.scripts_end (script_of input i)).1;
    } in
    known.some_end (setup_of input) (first_state input) finite

-- ## A thread whose next outcome does not answer

if_diverging_is : (setup : Setup) (s : State) (o : Option ℕ) (i : ℕ) → if_diverging setup s o ≡ Some i
    → is_diverging setup s i ≡ true
if_diverging_is setup s None i h = absurd (none-some i h)
if_diverging_is setup s (Some j) i h =
    ⊎_elim
    (λ (yes : is_diverging setup s j ≡ true). subst (λ (k : ℕ). is_diverging setup s k ≡ true)
    (same_Some j i (sym (cond-true (is_diverging setup s j) (Some j) None yes) ∙ h)) yes)
    (λ (no : is_diverging setup s j ≡ false).
    absurd (none-some i (sym (cond-false (is_diverging setup s j) (Some j) None no) ∙ h)))
    (cases_Bool (is_diverging setup s j))

pub diverging_is : (setup : Setup) (s : State) (i : ℕ) → diverging setup s ≡ Some i → is_diverging setup s i ≡ true
unfolding diverging
diverging_is setup s i h = if_diverging_is setup s _ i h

-- it is there, and does not fit
pub misfit : (setup : Setup) (job : Job) (next : Option Given) → diverging_in setup (Outside job) next ≡ true
    → (g : Given) × (next ≡ Some g) × (fits_job setup.calls job g ≡ false)
misfit setup job None h = absurd (false≢true h)
misfit setup job (Some g) h = (g, refl, flipped (fits_job setup.calls job g) h)
  where
    flipped : (b : Bool) → not b ≡ true → b ≡ false
    flipped true e = absurd (false≢true e)
    flipped false e = refl

-- so the thread stays as it is, however far the plain run goes
pub diverged_stays : KnownOfThreads → (setup : Setup) (threads objects : ℕ) (w : World) (n m i : ℕ)
    → diverging setup (plain_run setup n (start threads objects w)) ≡ Some i
    → thread_of (plain_run setup (n + m) (start threads objects w)) i
    ≡ thread_of (plain_run setup n (start threads objects w)) i
diverged_stays known setup threads objects w n m i diverges =
    let out = diverged_outside setup (plain_run setup n (start threads objects w)) i diverges in
    split out.0 out.1 (known.plain.stays setup (start threads objects w) n m i out.0 out.1)
  where
    split : (job : Job) → (thread_of (plain_run setup n (start threads objects w)) i).phase ≡ Outside job
        → StaysOrFits setup job (thread_of (plain_run setup n (start threads objects w)) i)
        (thread_of (plain_run setup (n + m) (start threads objects w)) i)
        → thread_of (plain_run setup (n + m) (start threads objects w)) i
        ≡ thread_of (plain_run setup n (start threads objects w)) i
    split job is (inl there) = there
    split job is (inr (o, next, fits)) =
        let came = (thread_of (plain_run setup n (start threads objects w)) i).came in
        let wrong : diverging_in setup (Outside job) (slice_get (setup.supply.outcomes i) (length came)) ≡ true =
        subst (λ (p : Phase). diverging_in setup p (slice_get (setup.supply.outcomes i) (length came)) ≡ true) is
        (diverging_is setup (plain_run setup n (start threads objects w)) i diverges) in
        let lost = misfit setup job (slice_get (setup.supply.outcomes i) (length came)) wrong in
        let supplied = came_supplied known.plain setup threads objects w (n + m) i (length came) o next in
        let same : supplied.0 ≡ lost.0 = same_Some supplied.0 lost.0 (sym supplied.1 ∙ lost.1) in
        let fits_too : fits_job setup.calls job supplied.0 ≡ true =
        known.plain.alike setup.calls job supplied.0 o supplied.2 fits in
        absurd (true≢false (sym fits_too ∙ (ap (fits_job setup.calls job) same ∙ lost.2)))
