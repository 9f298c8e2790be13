-- Believed: a contract of a command stands on it.
-- What `detio explore --write` writes of the scripts that it reads.
use Rattle.std.specs.Prelude.{◌≡◌, ◌⊎◌, ℕ, List, Option}
use Rattle.posix_terms.specs.declared.transcript.Settings.{Settings}
use Rattle.call_machine.specs.declared.plain.Plain.{Plain}
use Rattle.explorer.specs.Cases.{with_delays}
use Rattle.explorer.specs.Runs.{IsFault, IsRun}
use Rattle.explorer.specs.Subject.{Subject}
use Rattle.explorer.specs.declared.fault.RunFault.{RunFault}
use Rattle.command_texts.specs.declared.printed.Printed.{Printed}
use Rattle.explore_texts.specs.Schedules.{delays_by}
use Rattle.explore_commands.specs.Explores.{FaultPrints}
use Rattle.explore_commands.specs.Scheduled.{AreScheduled}
use Rattle.explore_commands.specs.Tries.{Tries}
use Rattle.explore_commands.specs.declared.explore.ExploreOptions.{ExploreOptions}
use Rattle.explore_commands.specs.declared.scheduling.ToSchedule.{ToSchedule}
use Rattle.explore_commands.specs.declared.scheduling.ToSchedule.TheVariants as delays
use Rattle.explore_commands.specs.declared.trying.ToTry.{ToTry}
use Rattle.explore_commands.specs.declared.trying.ToTry.TheVariants as tries
use Rattle.explore_commands.specs.declared.writing.ScriptsToWrite.{ScriptsToWrite}
use Rattle.explore_commands.specs.declared.writing.ScriptsToWrite.TheVariants as writes

-- nothing is written, and this is printed
abbrev pub IsNotWritten : Printed → ScriptsToWrite → Type 0
IsNotWritten printed (writes.Texts texts log) = ⊥
IsNotWritten printed (writes.Fault fault) = fault ≡ printed

-- the texts are written, and the log of this run
abbrev pub IsWritten : List (List ℕ) → Plain → ScriptsToWrite → Type 0
IsWritten given plain (writes.Texts texts log) = (texts.items ≡ given) × (log ≡ plain.log)
IsWritten given plain (writes.Fault fault) = ⊥

-- why there was no run is printed, and nothing is written
abbrev pub FaultWrites : Subject → ScriptsToWrite → Type 0
FaultWrites subject write =
    (why : RunFault) × IsFault subject why
    × ((printed : Printed) × FaultPrints why printed × IsNotWritten printed write)

-- what is written of a subject: its texts, and the log of their run, if there was one
abbrev pub SubjectWrites : Subject → ScriptsToWrite → Type 0
SubjectWrites subject write =
    ((plain : Plain) × IsRun subject plain × IsWritten subject.texts plain write)
    ⊎ FaultWrites subject write

-- of the subject with the delays of the first case, or where there are none
abbrev pub ScheduleWrites : Subject → ExploreOptions → ToSchedule → ScriptsToWrite → Type 0
ScheduleWrites subject options (delays.Delays schedule) write =
    SubjectWrites (with_delays (delays_by schedule options.first) subject) write
ScheduleWrites subject options (delays.Fault fault) write = IsNotWritten fault write

-- what is written of a subject with the delays of these options' first case
abbrev pub TrialWrites : ExploreOptions → Subject → ScriptsToWrite → Type 0
TrialWrites options subject write =
    (made : ToSchedule) × AreScheduled options subject.texts made
    × ScheduleWrites subject options made write

-- what is written of what is to be tried
abbrev pub TryWrites : ExploreOptions → ToTry → ScriptsToWrite → Type 0
TryWrites options (tries.Texts texts outcomes settings) write =
    TrialWrites options
    (record { texts = texts.items; outcomes = outcomes.items; settings = settings }) write
TryWrites options (tries.Fault fault) write = IsNotWritten fault write

-- What is written of these sources, and of that of a log, if one is given. The first fault counts,
-- as for what is printed
abbrev pub Writes : Settings → ExploreOptions → Option (List ℕ × Option (List ℕ))
    → List (List ℕ × Option (List ℕ)) → ScriptsToWrite → Type 0
Writes settings options log sources write =
    (try : ToTry) × Tries settings log sources try × TryWrites options try write
