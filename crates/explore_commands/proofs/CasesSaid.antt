-- What is said of a case, in words and in JSON.
use Rattle.std.proofs.Common.{◌≡◌, ℕ, Bool, true, false, List}
use Rattle.serde_json.specs.Data.{Data}
use Rattle.explorer.specs.Subject.{Subject}
use Rattle.explorer.specs.declared.observation.Observation.{Observation}
use Rattle.fault_injection.specs.declared.cases.FaultCase.{FaultCase}
use Rattle.explore_texts.specs.CaseTexts.{case_text}
use Rattle.explore_texts.specs.CutOffs.{cut_of}
use Rattle.explore_texts.specs.Findings.{IsFound, said_in_json, said_so}
use Rattle.explore_texts.specs.FoundJson.{fault_value}
use Rattle.explore_texts.specs.declared.finding.Finding.{Finding}
use Rattle.explore_texts.specs.declared.looked.Looked.{Looked}
use Rattle.explore_commands.specs.Injections.{case_said}

pub in_json : (json : Bool) (subject : Subject) (before : Observation) (looked_before : Looked) (case : FaultCase)
    (now : Observation) (looked : Looked) (value : Data) (cut : List ℕ) (finding : Finding)
    → json ≡ true → value ≡ fault_value subject.outcomes case → cut ≡ cut_of subject.texts now
    → IsFound before looked_before now looked 1 (said_in_json subject.texts before value 1 now looked cut) finding
    → IsFound before looked_before now looked 1 (case_said json subject before case now looked) finding
in_json json subject before looked_before case now looked value cut finding is_json is_value is_cut found =
    rw is_json (rw (is_value, is_cut) at found)

pub in_words : (json : Bool) (subject : Subject) (before : Observation) (looked_before : Looked) (case : FaultCase)
    (now : Observation) (looked : Looked) (front cut : List ℕ) (finding : Finding)
    → json ≡ false → front ≡ case_text subject.outcomes case → cut ≡ cut_of subject.texts now
    → IsFound before looked_before now looked 1 (said_so subject.texts before front now looked cut) finding
    → IsFound before looked_before now looked 1 (case_said json subject before case now looked) finding
in_words json subject before looked_before case now looked front cut finding is_words is_front is_cut found =
    rw is_words (rw (is_front, is_cut) at found)
