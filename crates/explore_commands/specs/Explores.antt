-- Believed: a contract of a command stands on it.
-- What `detio explore` prints for the scripts that it reads.
use Rattle.std.specs.Prelude.{◌≡◌, ◌⊎◌, ℕ, ◌-◌, ◌&&◌, not, Bool, true, false, List, []}
use Rattle.std.specs.Prelude.{Option, Some, is_some, codes}
use Rattle.std.specs.Fmt.{decimal}
use Rattle.std.specs.List.{AllZip, range_with_len}
use Rattle.posix_terms.specs.declared.transcript.Settings.{Settings}
use Rattle.thread_scripts.specs.Faults.{Fault, bad_line, too_long}
use Rattle.explorer.specs.Cases.{CasesJoin, IsFaultOf}
use Rattle.explorer.specs.Groups.{runs_of}
use Rattle.explorer.specs.Subject.{Subject}
use Rattle.explorer.specs.Runs.{IsFault, Sees}
use Rattle.explorer.specs.declared.fault.RunFault.{RunFault}
use Rattle.explorer.specs.declared.fault.RunFault.TheVariants as fault
use Rattle.explorer.specs.declared.groups.Group.{Group}
use Rattle.explorer.specs.declared.observation.Observation.{Observation}
use Rattle.command_texts.specs.Printing.{fault_printed, needs_scripts, script_fault}
use Rattle.command_texts.specs.Transcripts.{◌+++◌}
use Rattle.command_texts.specs.declared.printed.Printed.{Printed}
use Rattle.machine.specs.declared.stop.Stop.{Stop}
use Rattle.machine.specs.declared.stop.Stop.TheVariants as stop
use Rattle.explore_texts.specs.Alike.{AllJoin}
use Rattle.explore_texts.specs.Looked.{IsLooked}
use Rattle.explore_texts.specs.Explored.{explored_printed}
use Rattle.explore_texts.specs.Findings.{IsFinding, IsFoundAsIs}
use Rattle.explore_texts.specs.Schedules.{delays_by, end_by}
use Rattle.command_inputs.specs.Faults.{bad_settings}
use Rattle.explore_commands.specs.declared.explore.ExploreOptions.{ExploreOptions}
use Rattle.explore_commands.specs.Scheduled.{AreScheduled}
use Rattle.explore_commands.specs.Tries.{Tries}
use Rattle.explore_texts.specs.declared.alike.AlikeRuns.{AlikeRuns}
use Rattle.explore_texts.specs.declared.finding.Finding.{Finding}
use Rattle.explore_texts.specs.declared.looked.Looked.{Looked}
use Rattle.explore_texts.specs.declared.schedule.Schedule.{Schedule}
use Rattle.explore_commands.specs.declared.scheduling.ToSchedule.{ToSchedule}
use Rattle.explore_commands.specs.declared.scheduling.ToSchedule.TheVariants as delays
use Rattle.explore_commands.specs.declared.trying.ToTry.{ToTry}
use Rattle.explore_commands.specs.declared.trying.ToTry.TheVariants as tries

-- ## Faults

-- a script has no room for its delays
abbrev pub no_room : ℕ → Printed
no_room script =
    fault_printed 3 (codes "script " +++ decimal script +++ codes ": no room for delays\n")

-- why a script with its delays is not one
abbrev pub varied_fault : ℕ → Fault → Printed
varied_fault script (bad_line line) = script_fault script (bad_line line)
varied_fault script too_long = no_room script

-- what is printed where a run could not be made. That there is no memory is never printed so
abbrev pub FaultPrints : RunFault → Printed → Type 0
FaultPrints (fault.BadLine script line) printed = printed ≡ varied_fault script (bad_line line)
FaultPrints (fault.TooLong script) printed = printed ≡ varied_fault script too_long
FaultPrints fault.Threads printed = printed ≡ needs_scripts
FaultPrints fault.Settings printed = printed ≡ bad_settings
FaultPrints fault.Memory printed = ⊥

-- nothing comes from outside, and no log is given
abbrev pub no_log : Printed
no_log = fault_printed 2
    (codes "the scripts go outside, and nothing comes from there: give --log, a log of record\n")

-- a run stopped where a thread went outside, and nothing came
abbrev pub goes_outside : Option Stop → Bool
goes_outside (Some (stop.EndOfLog thread)) = true
goes_outside other = false

-- ## The command

-- the cases that are asked for and are there
abbrev pub cases_of : ExploreOptions → Schedule → List ℕ
cases_of options schedule =
    range_with_len options.first (end_by schedule options.end - options.first)

-- this is printed of these groups of runs, where this was seen and looked at without delays
pub record GroupsPrint
    (subject : Subject) (options : ExploreOptions) (schedule : Schedule) (before : Observation)
    (looked : Looked) (groups : List Group) (printed : Printed) : Type 0 where
  pub as_is : Finding
  pub found_as_is : IsFoundAsIs options.shown.json subject.texts before looked as_is
  pub all : List AlikeRuns
  pub join : AllJoin options.raw subject.texts groups [] all
  pub findings : List Finding
  pub found : AllZip (IsFinding options.shown.json subject schedule before looked) all findings
  pub says : printed ≡ explored_printed options.shown schedule as_is (runs_of groups) findings

-- this is printed where the runs of all cases were made
pub record IsExplored
    (subject : Subject) (options : ExploreOptions) (schedule : Schedule) (before : Observation)
    (printed : Printed) : Type 0 where
  pub groups : List Group
  pub explores :
      CasesJoin subject (delays_by schedule) [] (cases_of options schedule) groups
  pub looked : Looked
  pub is_looked : IsLooked options.raw subject.texts before looked
  pub print : GroupsPrint subject options schedule before looked groups printed

-- this is printed of the runs with delays, where this was seen in the run without them
abbrev pub SeenExplores : Subject → ExploreOptions → Schedule → Observation → Printed → Type 0
SeenExplores subject options schedule before printed =
    IsExplored subject options schedule before printed
    ⊎ ((why : RunFault)
    × IsFaultOf subject (delays_by schedule) options.first (end_by schedule options.end) why
    × FaultPrints why printed)

-- what is printed where that run, without a log, went outside or not
abbrev pub OutsideExplores :
    Bool → Subject → ExploreOptions → Schedule → Observation → Printed → Type 0
OutsideExplores true subject options schedule before printed = printed ≡ no_log
OutsideExplores false subject options schedule before printed =
    SeenExplores subject options schedule before printed

-- what is printed: of the runs with delays, or why there was none without. No log is given, or one
-- is
abbrev pub SubjectExplores : Bool → Subject → ExploreOptions → Schedule → Printed → Type 0
SubjectExplores alone subject options schedule printed =
    ((before : Observation) × Sees subject before
    × OutsideExplores (alone && goes_outside before.stop) subject options schedule before printed)
    ⊎ ((why : RunFault) × IsFault subject why × FaultPrints why printed)

-- with these delays, or where there are none
abbrev pub ScheduleExplores : Bool → Subject → ExploreOptions → ToSchedule → Printed → Type 0
ScheduleExplores alone subject options (delays.Delays schedule) printed =
    SubjectExplores alone subject options schedule printed
ScheduleExplores alone subject options (delays.Fault fault) printed = printed ≡ fault

-- what is printed of a subject that is explored with the delays of these options
abbrev pub TrialExplores : Bool → ExploreOptions → Subject → Printed → Type 0
TrialExplores alone options subject printed =
    (made : ToSchedule) × AreScheduled options subject.texts made
    × ScheduleExplores alone subject options made printed

-- what is printed for what is to be tried
abbrev pub TryExplores : Bool → ExploreOptions → ToTry → Printed → Type 0
TryExplores alone options (tries.Texts texts outcomes settings) printed =
    TrialExplores alone options
    (record { texts = texts.items; outcomes = outcomes.items; settings = settings }) printed
TryExplores alone options (tries.Fault fault) printed = printed ≡ fault

-- What `detio explore` prints for these sources, and for that of a log, if one is given. Of its
-- faults those of what is read come first, then those of the delays, the settings, a script without
-- room for its delays
abbrev pub ExplorePrints : Settings → ExploreOptions → Option (List ℕ × Option (List ℕ))
    → List (List ℕ × Option (List ℕ)) → Printed → Type 0
ExplorePrints settings options log sources printed =
    (try : ToTry) × Tries settings log sources try
    × TryExplores (not (is_some log)) options try printed
