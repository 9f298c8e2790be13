-- Believed: a contract of a command stands on it.
-- What is found of runs that are compared with one.
use Rattle.std.specs.Prelude.{◌≡◌, ◌↔◌, ◌++◌, ℕ, IsTrue, Bool, true, List, Option}
use Rattle.std.specs.Prelude.{if◌then◌else◌}
use Rattle.comparator.specs.Comparison.{IsVerdictOn}
use Rattle.comparator.specs.declared.verdict.Verdict.{Verdict}
use Rattle.comparator.specs.declared.verdict.Verdict.TheVariants as verdicts
use Rattle.serde_json.specs.Data.{Data, null}
use Rattle.explorer.specs.Observations.{EndAlike}
use Rattle.explorer.specs.Subject.{Subject}
use Rattle.explorer.specs.Varied.{varied_texts}
use Rattle.explorer.specs.declared.groups.Group.{Group}
use Rattle.explorer.specs.declared.observation.Observation.{Observation}
use Rattle.explore_texts.specs.CutOffs.{cut_of}
use Rattle.explore_texts.specs.Found.{as_is_text, found_text}
use Rattle.explore_texts.specs.FoundJson.{case_value, found_json}
use Rattle.explore_texts.specs.Looked.{compared_in, waits_in}
use Rattle.explore_texts.specs.Schedules.{delays_by, front_text}
use Rattle.explore_texts.specs.declared.alike.AlikeRuns.{AlikeRuns}
use Rattle.explore_texts.specs.declared.finding.Finding.{Finding}
use Rattle.explore_texts.specs.declared.looked.Looked.{Looked}
use Rattle.explore_texts.specs.declared.schedule.Schedule.{Schedule}

-- ## The line

-- what is said of the run of these texts as they are
abbrev pub as_is_line : Bool → List (List ℕ) → Observation → Looked → List ℕ
as_is_line json texts before looked =
    if json
    then found_json null 1 before before looked (cut_of texts before) (waits_in texts before)
    verdicts.Same true
    else as_is_text before (cut_of texts before) (waits_in texts before) looked.unmet

-- what is said of other runs in words, in a line that begins so: by the first row that differs from
-- what was seen before, and by whether the runs ended like that one
abbrev pub said_so :
    List (List ℕ) → Observation → List ℕ → Observation → Looked → List ℕ → Verdict → Bool → List ℕ
said_so texts before front now looked cut verdict ends_alike =
    front ++ found_text before now cut (waits_in texts now) verdict ends_alike looked.unmet

-- and of so many runs of this case in JSON
abbrev pub said_in_json :
    List (List ℕ) → Observation → Data → ℕ → Observation → Looked → List ℕ → Verdict → Bool
    → List ℕ
said_in_json texts before case runs now looked cut verdict ends_alike =
    found_json case runs before now looked cut (waits_in texts now) verdict ends_alike

-- ## What is found

-- what is found of the run of these texts as they are, in which this was seen and looked at
pub record IsFoundAsIs
    (json : Bool) (texts : List (List ℕ)) (before : Observation) (looked : Looked)
    (finding : Finding) : Type 0 where
  pub line : finding.line ≡ as_is_line json texts before looked
  pub count : finding.runs ≡ 1
  pub came_to : finding.judgement ≡ looked.judgement

-- What is found of so many runs, by what was seen and looked at in the first of them and in the run
-- as it is. This is what is said of them
pub record IsFound
    (before : Observation) (looked_before : Looked) (now : Observation) (looked : Looked)
    (runs : ℕ) (said : Verdict → Bool → List ℕ) (finding : Finding) : Type 0 where
  pub verdict : Verdict
  pub differs : IsVerdictOn (compared_in looked_before before) (compared_in looked now) verdict
  pub ends_alike : Bool
  pub ends : IsTrue ends_alike ↔ EndAlike before now
  pub line : finding.line ≡ said verdict ends_alike
  pub count : finding.runs ≡ runs
  pub came_to : finding.judgement ≡ looked.judgement

-- the threads that were cut off in the first run of a group
abbrev pub cut_in : Subject → (ℕ → ℕ → ℕ → Option ℕ) → Group → List ℕ
cut_in subject delays group =
    cut_of (varied_texts (delays group.first) 0 subject.texts) group.observation

-- what is said of runs with delays that are alike
abbrev pub said_of :
    Bool → Subject → Schedule → Observation → AlikeRuns → Verdict → Bool → List ℕ
said_of json subject schedule before alike verdict ends_alike =
    if json
    then said_in_json subject.texts before (case_value schedule alike.group.first)
    alike.group.runs alike.group.observation alike.looked
    (cut_in subject (delays_by schedule) alike.group) verdict ends_alike
    else said_so subject.texts before (front_text schedule alike.group) alike.group.observation
    alike.looked (cut_in subject (delays_by schedule) alike.group) verdict ends_alike

-- what is found of them
abbrev pub IsFinding :
    Bool → Subject → Schedule → Observation → Looked → AlikeRuns → Finding → Type 0
IsFinding json subject schedule before looked alike finding =
    IsFound before looked alike.group.observation alike.looked alike.group.runs
    (said_of json subject schedule before alike) finding
