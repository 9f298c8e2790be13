-- Believed: a contract of a command stands on it.
-- Whether scripts fail in a way, and when no less of them fails the same.
use Rattle.std.specs.Prelude.{◌≡◌, ℕ, ◌/◌, All, Contains, Some, true, IsSomeAnd}
use Rattle.std.specs.List.{zip}
use Rattle.command_texts.specs.Expecting.{IsGood}
use Rattle.explorer.specs.Runs.{Sees}
use Rattle.explorer.specs.Subject.{Subject}
use Rattle.explorer.specs.declared.observation.Observation.{Observation}
use Rattle.minimiser.specs.Parts.{units_of}
use Rattle.minimiser.specs.Reductions.{Kept, is_kept, kept_outcomes, kept_texts, part_at}
use Rattle.minimiser.specs.Reductions.{target_now, without}
use Rattle.minimiser.specs.Rounds.{delays_of}
use Rattle.minimiser.specs.Scopes.{IsAllowed, Stands}
use Rattle.minimiser.specs.Targets.{IsFirstTarget, sameness_of}
use Rattle.minimiser.specs.declared.fault.MinimiseFault.{MinimiseFault}
use Rattle.minimiser.specs.declared.fault.MinimiseFault.TheVariants as fault
use Rattle.minimiser.specs.declared.scope.Scope.{Scope}
use Rattle.minimiser.specs.declared.step.Removal.{Removal}
use Rattle.minimiser.specs.declared.step.Removal.TheVariants as step
use Rattle.minimiser.specs.declared.target.Sameness.{Sameness}
use Rattle.minimiser.specs.declared.target.Target.{Target}

-- all that the texts expect is good, and this is seen in the plain run of the scripts that they are
pub record IsRunOf (subject : Subject) (observation : Observation) : Type 0 where
  pub good : All IsGood subject.texts
  pub sees : Sees subject observation

-- scripts fail so in their plain run
pub record Fails (sameness : Sameness) (subject : Subject) (target : Target) : Type 0 where
  pub observation : Observation
  pub run : IsRunOf subject observation
  pub first : IsFirstTarget sameness (zip subject.texts observation.seen) target

-- ## What is kept

-- what is kept of what was given
abbrev pub kept_subject : Subject → Kept → Subject
kept_subject given kept = record {
  texts = kept_texts kept given.texts;
  outcomes = kept_outcomes kept given.outcomes;
  settings = given.settings;
}

-- what is kept fails the same, with the numbers that its lines and thread have now
abbrev pub FailsIn : Subject → Target → Kept → Type 0
FailsIn given target kept =
    IsSomeAnd (target_now kept target) (Fails (sameness_of target.came) (kept_subject given kept))

-- it does not after this step, if that takes something away
abbrev pub IsRefused : Subject → Target → Kept → Removal → Type 0
IsRefused given target kept step =
    is_kept kept step ≡ true → ¬ (FailsIn given target (without kept step))

-- what is kept fails the same, and no longer without one of its lines or threads that may be taken
-- away, nor with half of the units of one of its delays
pub record IsMinimal
    (scope : Scope) (given : Subject) (target : Target) (kept : Kept) : Type 0 where
  pub fails : FailsIn given target kept
  pub lines : (thread line : ℕ) → IsAllowed scope given.texts (step.Line thread line)
      → IsRefused given target kept (step.Line thread line)
  pub threads : (thread : ℕ) → IsAllowed scope given.texts (step.Thread thread)
      → IsRefused given target kept (step.Thread thread)
  pub halves : (thread line units : ℕ)
      → Contains (delays_of 0 given.texts) (step.Line thread line)
      → units_of (part_at kept thread line) ≡ Some units
      → IsRefused given target kept (step.Shorten thread line (units / 2))
  pub stands : Stands scope given.texts kept

-- why nothing is kept: what was given does not fail so. Without memory nothing is said
abbrev pub IsFault : Subject → Target → MinimiseFault → Type 0
IsFault given target fault.NotFailing = ¬ (Fails (sameness_of target.came) given target)
IsFault given target fault.Memory = Unit {0}
