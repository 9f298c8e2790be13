-- Believed: a contract of a command stands on it.
-- What `detio minimise` writes of the scripts that it reads.
use Rattle.std.specs.Prelude.{◌≡◌, ◌⊎◌, ℕ, ◌-◌, List, [], Option, codes}
use Rattle.std.specs.Fmt.{decimal}
use Rattle.posix_terms.specs.declared.transcript.Settings.{Settings}
use Rattle.call_machine.specs.declared.plain.Plain.{Plain}
use Rattle.explorer.specs.Runs.{IsFault, IsRun}
use Rattle.explorer.specs.Subject.{Subject}
use Rattle.explorer.specs.declared.fault.RunFault.{RunFault}
use Rattle.minimiser.specs.Failing.{Fails, IsMinimal, kept_subject}
use Rattle.minimiser.specs.Amounts.{amounts_of}
use Rattle.minimiser.specs.Reductions.{Kept}
use Rattle.minimiser.specs.declared.amounts.Amounts.{Amounts}
use Rattle.minimiser.specs.declared.scope.Scope.{Scope}
use Rattle.minimiser.specs.declared.target.Target.{Target}
use Rattle.command_texts.specs.Printing.{fault_printed}
use Rattle.command_texts.specs.Transcripts.{◌+++◌}
use Rattle.command_texts.specs.declared.printed.Printed.{Printed}
use Rattle.explore_commands.specs.Tries.{Tries}
use Rattle.explore_commands.specs.Explores.{FaultPrints}
use Rattle.explore_commands.specs.Writes.{IsNotWritten, SubjectWrites}
use Rattle.explore_commands.specs.declared.minimise.MinimiseOptions.{MinimiseOptions}
use Rattle.explore_commands.specs.declared.minimise.MinimisedScripts.{MinimisedScripts}
use Rattle.explore_commands.specs.declared.trying.ToTry.{ToTry}
use Rattle.explore_commands.specs.declared.trying.ToTry.TheVariants as tries

-- all replies are as expected
abbrev pub not_failing : Printed
not_failing = fault_printed 3 (codes "every reply is as expected: there is nothing to minimise\n")

-- of a kind so many were given, and so many are left: how many were taken away, and of how many
abbrev pub taken_of : List ℕ → ℕ → ℕ → List ℕ
taken_of kind given left = kind +++ decimal (given - left) +++ codes " of " +++ decimal given

-- the line that says how much was taken away of what was given, where so much is left
abbrev pub taken_line : Amounts → Amounts → List ℕ
taken_line given left =
    codes "taken away" +++ taken_of (codes " threads ") given.threads left.threads
    +++ taken_of (codes " lines ") given.lines left.lines
    +++ taken_of (codes " delays ") given.delays left.delays
    +++ taken_of (codes " units ") given.units left.units
    +++ codes "\n"

-- what is kept of a subject is written, and the last line says how much was taken away
pub record IsReduced (subject : Subject) (kept : Kept) (minimised : MinimisedScripts) : Type 0 where
  pub writes : SubjectWrites (kept_subject subject kept) minimised.to_write
  pub taken : minimised.taken
      ≡ taken_line (amounts_of subject.texts) (amounts_of (kept_subject subject kept).texts)

-- nothing is written, and this is printed, without such a line
pub record IsUnwritten (printed : Printed) (minimised : MinimisedScripts) : Type 0 where
  pub writes : IsNotWritten printed minimised.to_write
  pub taken : minimised.taken ≡ []

-- what is written of a subject that fails so: what is kept of it, which fails the same, and does
-- not without any one of its lines or threads, or of its delays, nor with half of a delay
abbrev pub TargetMinimises : Scope → Subject → Target → MinimisedScripts → Type 0
TargetMinimises scope subject target minimised =
    (kept : Kept) × IsMinimal scope subject target kept × IsReduced subject kept minimised

-- what is printed where it does not fail: it was run, or not
abbrev pub NothingMinimises : Subject → MinimisedScripts → Type 0
NothingMinimises subject minimised =
    ((plain : Plain) × IsRun subject plain × IsUnwritten not_failing minimised)
    ⊎ ((why : RunFault) × IsFault subject why
    × ((printed : Printed) × FaultPrints why printed × IsUnwritten printed minimised))

-- what is written of a subject: what its failure needs, or why nothing is
abbrev pub SubjectMinimises : MinimiseOptions → Subject → MinimisedScripts → Type 0
SubjectMinimises options subject minimised =
    ((target : Target) × Fails options.sameness subject target
    × TargetMinimises options.scope subject target minimised)
    ⊎ (((target : Target) → ¬ (Fails options.sameness subject target))
    × NothingMinimises subject minimised)

-- what is written of what is to be tried
abbrev pub TryMinimises : MinimiseOptions → ToTry → MinimisedScripts → Type 0
TryMinimises options (tries.Texts texts outcomes settings) minimised =
    SubjectMinimises options
    (record { texts = texts.items; outcomes = outcomes.items; settings = settings }) minimised
TryMinimises options (tries.Fault fault) minimised = IsUnwritten fault minimised

-- what is written of these sources, and of that of a log, if one is given
abbrev pub Minimises : Settings → MinimiseOptions → Option (List ℕ × Option (List ℕ))
    → List (List ℕ × Option (List ℕ)) → MinimisedScripts → Type 0
Minimises settings options log sources minimised =
    (try : ToTry) × Tries settings log sources try × TryMinimises options try minimised
