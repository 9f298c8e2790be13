-- Believed: a contract of a command stands on it.
-- What `detio check` prints for the scripts that it reads, and how it ends.
use Rattle.std.specs.Prelude.{◌≡◌, ℕ, Bool, List, [], ◌∷◌, ◌++◌, map, Option, if◌then◌else◌, is_ok}
use Rattle.std.specs.List.{filter_map, list_all}
use Rattle.std.specs.Result.{result_ok}
use Rattle.thread_scripts.specs.declared.line.Line.{Line}
use Rattle.script_checks.specs.Sharing.{AreAllShared}
use Rattle.script_checks.specs.declared.descriptors.SharedDescriptor.{SharedDescriptor}
use Rattle.check_commands.specs.Json.{checked_json}
use Rattle.check_commands.specs.Shares.{shared_texts}
use Rattle.check_commands.specs.declared.checking.CheckOptions.{CheckOptions}
use Rattle.check_commands.specs.declared.scripts.Scripts.{Scripts}
use Rattle.thread_scripts.specs.Grammar.{script_of}
use Rattle.command_texts.specs.declared.printed.Printed.{Printed}
use Rattle.command_inputs.specs.Sources.{IsRead}
use Rattle.command_inputs.specs.declared.sources.SourceTexts.{SourceTexts}
use Rattle.command_inputs.specs.declared.sources.SourceTexts.TheVariants as texts
use Rattle.script_checks.specs.Checks.{IsChecked}
use Rattle.script_checks.specs.declared.checking.Checked.{Checked}
use Rattle.check_commands.specs.Findings.{checked_text}

-- a text is a script
abbrev pub is_script_text : List ℕ → Bool
is_script_text text = is_ok (script_of text)

-- the status where these texts were read
abbrev pub check_status : List (List ℕ) → ℕ
check_status texts = if list_all is_script_text texts then 0 else 3

-- what is printed of a text, in JSON if that is asked
abbrev pub checked_by : Bool → List ℕ → Checked → List ℕ
checked_by json path check = if json then checked_json path check else checked_text path check

-- this was found of a text, and its lines are added
pub record AddsFindings (json : Bool) (path text output output' : List ℕ) : Type 0 where
  pub check : Checked
  pub is : IsChecked text check
  pub adds : output' ≡ output ++ checked_by json path check

-- the lines of what was found of the texts at these paths
abbrev pub AreFindings : Bool → List (List ℕ) → List (List ℕ) → List ℕ → Type 0
AreFindings json paths [] output = output ≡ []
AreFindings json [] (text ∷ texts) output = ⊥
AreFindings json (path ∷ paths) (text ∷ texts) output =
    (check : Checked) × (others : List ℕ) × IsChecked text check
    × AreFindings json paths texts others × (output ≡ checked_by json path check ++ others)

-- the scripts among these texts
abbrev pub scripts_among : List (List ℕ) → List (List Line)
scripts_among texts = filter_map (λ text. result_ok (script_of text)) texts

-- What was found of these texts is printed, on standard output alone, and then the warnings of
-- descriptors that more than one of them names
pub record TextsPrint (json : Bool) (paths texts : List (List ℕ)) (printed : Printed) : Type 0 where
  pub status : printed.status ≡ check_status texts
  pub errors : printed.errors ≡ []
  pub findings : List ℕ
  pub are_findings : AreFindings json paths texts findings
  pub scripts : Scripts
  pub are_scripts : scripts.scripts.items ≡ scripts_among texts
  pub shared : List SharedDescriptor
  pub are_shared : AreAllShared (scripts_among texts) shared
  pub output : printed.output ≡ findings ++ shared_texts json scripts shared

-- what is printed for the texts of sources, or where they were not read
abbrev pub ReadPrints : Bool → List (List ℕ) → SourceTexts → Printed → Type 0
ReadPrints json paths (texts.Read read) printed = TextsPrint json paths read.items printed
ReadPrints json paths (texts.Fault fault) printed = printed ≡ fault

-- What `detio check` prints for these sources, in JSON if that is asked. A script that is bad is
-- not a fault: the faults are the number of scripts, and one that cannot be read
abbrev pub CheckPrints : CheckOptions → List (List ℕ × Option (List ℕ)) → Printed → Type 0
CheckPrints options sources printed =
    (read : SourceTexts) × IsRead sources read
    × ReadPrints options.json (map (λ s. s.0) sources) read printed
