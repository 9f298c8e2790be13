-- Believed: a contract of a command stands on it.
-- What `detio faults` prints for the log and the scripts that it reads.
use Rattle.std.specs.Prelude.{◌≡◌, ◌⊎◌, ℕ, Bool, true, List, length, if◌then◌else◌}
use Rattle.std.specs.Prelude.{Option, Some, None}
use Rattle.std.specs.List.{AllZip}
use Rattle.call_machine.specs.declared.plain.Plain.{Plain}
use Rattle.comparator.specs.declared.verdict.Verdict.{Verdict}
use Rattle.explorer.specs.Observations.{observed}
use Rattle.explorer.specs.Runs.{IsFault, IsRun}
use Rattle.explorer.specs.Subject.{Subject}
use Rattle.explorer.specs.declared.fault.RunFault.{RunFault}
use Rattle.explorer.specs.declared.observation.Observation.{Observation}
use Rattle.fault_injection.specs.Cases.{fault_cases}
use Rattle.fault_injection.specs.Filled.{IsFilledRun}
use Rattle.fault_injection.specs.Places.{places_in}
use Rattle.fault_injection.specs.Replaced.{subject_in}
use Rattle.fault_injection.specs.declared.cases.Choice.{Choice}
use Rattle.fault_injection.specs.declared.cases.FaultCase.{FaultCase}
use Rattle.fault_injection.specs.declared.filling.Filling.{Filling}
use Rattle.command_texts.specs.declared.printed.Printed.{Printed}
use Rattle.explore_texts.specs.CaseTexts.{case_text}
use Rattle.explore_texts.specs.CutOffs.{cut_of}
use Rattle.explore_texts.specs.Explored.{cases_printed}
use Rattle.explore_texts.specs.Findings.{IsFound, IsFoundAsIs, said_in_json, said_so}
use Rattle.explore_texts.specs.FoundJson.{fault_value}
use Rattle.explore_texts.specs.Looked.{IsLooked}
use Rattle.explore_commands.specs.Explores.{FaultPrints}
use Rattle.explore_commands.specs.Tries.{ByLogTries}
use Rattle.explore_commands.specs.declared.faults.FaultOptions.{FaultOptions}
use Rattle.explore_commands.specs.declared.faults.TheConstants.{MOST_FILLED}
use Rattle.explore_texts.specs.declared.finding.Finding.{Finding}
use Rattle.explore_texts.specs.declared.looked.Looked.{Looked}
use Rattle.explore_commands.specs.declared.trying.ToTry.{ToTry}
use Rattle.explore_commands.specs.declared.trying.ToTry.TheVariants as tries

-- ## What is found

-- this is the run of a case: it stops at what the outcomes do not answer, or that is filled in
abbrev pub RunsCase : Option Filling → Subject → Plain → Type 0
RunsCase None subject plain = IsRun subject plain
RunsCase (Some filling) subject plain = IsFilledRun MOST_FILLED filling subject plain

-- this is seen in it
abbrev pub SeesCase : Option Filling → Subject → Observation → Type 0
SeesCase filling subject now =
    (plain : Plain) × RunsCase filling subject plain × (now ≡ observed plain)

-- what is said of the run of a case in which this was seen and looked at
abbrev pub case_said :
    Bool → Subject → Observation → FaultCase → Observation → Looked → Verdict → Bool → List ℕ
case_said json subject before case now looked verdict ends_alike =
    if json
    then said_in_json subject.texts before (fault_value subject.outcomes case) 1 now looked
    (cut_of subject.texts now) verdict ends_alike
    else said_so subject.texts before (case_text subject.outcomes case) now looked
    (cut_of subject.texts now) verdict ends_alike

-- what is found of a case, with the numbers of descriptors as they are
abbrev pub IsCaseFinding :
    FaultOptions → Subject → Observation → Looked → FaultCase → Finding → Type 0
IsCaseFinding options subject before looked_before case finding =
    (now : Observation) × SeesCase options.filling (subject_in case subject) now
    × ((looked : Looked) × IsLooked true subject.texts now looked
    × IsFound before looked_before now looked 1
    (case_said options.shown.json subject before case now looked) finding)

-- ## The command

-- the cases of a subject with this run
abbrev pub cases_of : Choice → Subject → Plain → List FaultCase
cases_of choice subject run =
    fault_cases choice subject.outcomes (places_in (length subject.outcomes) run.history.rows)

-- this is printed where the runs of these cases were made
pub record AreTried
    (options : FaultOptions) (subject : Subject) (before : Observation)
    (cases : List FaultCase) (printed : Printed)
    : Type 0 where
  pub looked : Looked
  pub is_looked : IsLooked true subject.texts before looked
  pub as_is : Finding
  pub found_as_is : IsFoundAsIs options.shown.json subject.texts before looked as_is
  pub findings : List Finding
  pub found : AllZip (IsCaseFinding options subject before looked) cases findings
  pub says : printed ≡ cases_printed options.shown as_is findings

-- what is printed: of the cases, or why there was no run by the log as it is
abbrev pub SubjectInjects : FaultOptions → Subject → Printed → Type 0
SubjectInjects options subject printed =
    ((run : Plain) × IsRun subject run
    × AreTried options subject (observed run) (cases_of options.choice subject run) printed)
    ⊎ ((why : RunFault) × IsFault subject why × FaultPrints why printed)

-- what is printed for what is to be tried
abbrev pub TryInjects : FaultOptions → ToTry → Printed → Type 0
TryInjects options (tries.Texts texts outcomes settings) printed =
    SubjectInjects options
    (record { texts = texts.items; outcomes = outcomes.items; settings = settings }) printed
TryInjects options (tries.Fault fault) printed = printed ≡ fault

-- What `detio faults` prints for the log and the sources of these paths
abbrev pub InjectionsPrint : FaultOptions → List ℕ × Option (List ℕ)
    → List (List ℕ × Option (List ℕ)) → Printed → Type 0
InjectionsPrint options log sources printed =
    (try : ToTry) × ByLogTries log sources try × TryInjects options try printed
