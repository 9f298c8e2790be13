-- Runs in which outcomes are filled in, one after the other.
use Rattle.std.proofs.Common.{◌≡◌, ℕ, zero, suc, List, Option, Some, None, length, refl, subst, sym}
use Rattle.std.proofs.Common.{◌∙◌, Bool, ap, false, true, inl, inr}
use Rattle.std.specs.Prelude.{MatchOption, if◌then◌else◌}
use Rattle.posix_terms.specs.declared.outcome.Given.{Given}
use Rattle.posix_terms.specs.declared.transcript.Settings.{Settings}
use Rattle.thread_scripts.specs.declared.line.Line.{Line}
use Rattle.call_machine.specs.Plain.{counts_fit}
use Rattle.call_machine.specs.declared.fault.PlainFault.{PlainFault}
use Rattle.call_machine.specs.declared.fault.PlainFault.TheVariants as plain_fault
use Rattle.call_machine.specs.declared.plain.Plain.{Plain}
use Rattle.explorer.specs.Runs.{IsFault, IsNotRun, IsRun, inputs_of}
use Rattle.explorer.specs.Subject.{Subject}
use Rattle.explorer.specs.declared.fault.RunFault.{RunFault}
use Rattle.fault_injection.specs.Filled.{IsFilledRun, more_after}
use Rattle.fault_injection.specs.declared.filling.Filling.{Filling}

abbrev pub subject_of : List (List ℕ) → List (List Given) → Settings → Subject
subject_of texts outcomes settings =
    record { texts = texts; outcomes = outcomes; settings = settings }

-- what is to be filled in after this run
abbrev pub after : Filling → Subject → Plain → Option (List (List Given))
after filling subject run = more_after filling subject.outcomes run.history.asked run.stop

-- the run is that of the subject where nothing is to be filled in
pub no_more : (n : ℕ) (filling : Filling) (subject : Subject) (run : Plain) → IsRun subject run
    → after filling subject run ≡ None → IsFilledRun n filling subject run
unfolding IsFilledRun
no_more zero filling subject run is none = is
no_more (suc n) filling subject run is none = (
  run,
  is,
  subst
      (λ (o : Option (List (List Given))).
      MatchOption o (run ≡ run)
      (λ more. IsFilledRun n filling (record subject { outcomes = more }) run))
      (sym none) refl,
)

-- else it is that of the subject with the outcomes of the next run
pub one_more : (n : ℕ) (filling : Filling) (subject : Subject) (more : List (List Given))
    (run plain : Plain) → IsRun subject run → after filling subject run ≡ Some more
    → IsFilledRun n filling (record subject { outcomes = more }) plain
    → IsFilledRun (suc n) filling subject plain
unfolding IsFilledRun
one_more n filling subject more run plain is some later = (
  run,
  is,
  subst
      (λ (o : Option (List (List Given))).
      MatchOption o (plain ≡ run)
      (λ others. IsFilledRun n filling (record subject { outcomes = others }) plain))
      (sym some) later,
)

-- with none to be filled in any more it is the plain run
pub last_run : (filling : Filling) (subject : Subject) (run : Plain) → IsRun subject run
    → IsFilledRun 0 filling subject run
unfolding IsFilledRun
last_run filling subject run is = is

-- ## Faults

not_run_with : (subject : Subject) (outcomes : List (List Given)) (scripts : List (List Line))
    (why : PlainFault) → length outcomes ≡ length subject.outcomes
    → IsNotRun (inputs_of (record subject { outcomes = outcomes }) scripts) why
    → IsNotRun (inputs_of subject scripts) why
not_run_with subject outcomes scripts plain_fault.Threads same is =
    subst (λ (n : ℕ). counts_fit (length scripts) n ≡ false) same is
not_run_with subject outcomes scripts plain_fault.Settings same is =
    (subst (λ (n : ℕ). counts_fit (length scripts) n ≡ true) same is.0, is.1)
not_run_with subject outcomes scripts plain_fault.Memory same is = is

-- why there was no run is the same with as many lists of other outcomes
pub same_fault : (subject : Subject) (outcomes : List (List Given)) (fault : RunFault)
    → length outcomes ≡ length subject.outcomes
    → IsFault (record subject { outcomes = outcomes }) fault → IsFault subject fault
same_fault subject outcomes fault same (inl texts) = inl texts
same_fault subject outcomes fault same (inr (scripts, are, (why, is, not_run))) =
    inr (scripts, are, (why, is, not_run_with subject outcomes scripts why same not_run))

-- also where they are known to be those
pub fault_stays : (subject : Subject) (outcomes copied : List (List Given)) (fault : RunFault)
    → copied ≡ outcomes → length outcomes ≡ length subject.outcomes
    → IsFault (record subject { outcomes = copied }) fault → IsFault subject fault
fault_stays subject outcomes copied fault is same not_run =
    same_fault subject outcomes fault same
    (subst
    (λ (given : List (List Given)). IsFault (record subject { outcomes = given }) fault)
    is not_run)

pub run_stays : (subject : Subject) (outcomes copied : List (List Given)) (run : Plain)
    → copied ≡ outcomes → IsRun (record subject { outcomes = copied }) run
    → IsRun (record subject { outcomes = outcomes }) run
run_stays subject outcomes copied run is =
    subst
    (λ (given : List (List Given)). IsRun (record subject { outcomes = given }) run)
    is

-- ## What was filled in

pub none_filled : {X : Type 0} (filled : Bool) (x : X) (more : Option X) → filled ≡ false
    → more ≡ (if filled then Some x else None) → more ≡ None
none_filled filled x more is same =
    same ∙ ap (λ (b : Bool). if b then Some x else None) is

pub one_filled : {X : Type 0} (filled : Bool) (x : X) (more : Option X) → filled ≡ true
    → more ≡ (if filled then Some x else None) → more ≡ Some x
one_filled filled x more is same =
    same ∙ ap (λ (b : Bool). if b then Some x else None) is
