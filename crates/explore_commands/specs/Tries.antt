-- Believed: a contract of a command stands on it.
-- What a command runs again and again for the scripts that it reads, and for a log, if one is
-- given.
use Rattle.std.specs.Prelude.{◌≡◌, ℕ, true, List, [], length, replicate, Option, Some, None}
use Rattle.posix_terms.specs.declared.outcome.Given.{Given}
use Rattle.posix_terms.specs.declared.transcript.Settings.{Settings}
use Rattle.command_texts.specs.declared.printed.Printed.{Printed}
use Rattle.command_inputs.specs.Expects.{IsToRun}
use Rattle.command_inputs.specs.LogTexts.{IsToReplay}
use Rattle.command_inputs.specs.Sources.{IsRead}
use Rattle.command_inputs.specs.declared.log_texts.ToReplay.{ToReplay}
use Rattle.command_inputs.specs.declared.log_texts.ToReplay.TheVariants as reads
use Rattle.command_inputs.specs.declared.running.ToRun.{ToRun}
use Rattle.command_inputs.specs.declared.running.ToRun.TheVariants as runs
use Rattle.command_inputs.specs.declared.sources.SourceTexts.{SourceTexts}
use Rattle.command_inputs.specs.declared.sources.SourceTexts.TheVariants as texts
use Rattle.explore_commands.specs.LogGives.{LogGives}
use Rattle.explore_commands.specs.declared.log_inputs.LogInputs.{LogInputs}
use Rattle.explore_commands.specs.declared.log_inputs.LogInputs.TheVariants as inputs
use Rattle.explore_commands.specs.declared.trying.ToTry.{ToTry}
use Rattle.explore_commands.specs.declared.trying.ToTry.TheVariants as tries

-- these texts are tried, and this comes for them from outside under these settings
abbrev pub IsTried : List (List ℕ) → List (List Given) → Settings → ToTry → Type 0
IsTried texts outcomes settings (tries.Texts given from under) =
    (given.items ≡ texts) × (from.items ≡ outcomes) × (under ≡ settings)
IsTried texts outcomes settings (tries.Fault fault) = ⊥

-- nothing is tried, and this is printed
abbrev pub IsNotTried : Printed → ToTry → Type 0
IsNotTried printed (tries.Texts given from under) = ⊥
IsNotTried printed (tries.Fault fault) = fault ≡ printed

-- ## Where nothing comes from outside

-- the texts are scripts, and all that they expect is good; or the first fault is printed
abbrev pub RunAlone : Settings → List (List ℕ) → ToRun → ToTry → Type 0
RunAlone settings texts (runs.Scripts scripts) try =
    IsTried texts (replicate (length texts) []) settings try
RunAlone settings texts (runs.Fault fault) try = IsNotTried fault try

-- what is tried of these texts, with nothing from outside
abbrev pub TextsAlone : Settings → List (List ℕ) → ToTry → Type 0
TextsAlone settings texts try =
    (run : ToRun) × IsToRun true texts run × RunAlone settings texts run try

-- what is tried of the texts of sources, or where they were not read
abbrev pub ReadAlone : Settings → SourceTexts → ToTry → Type 0
ReadAlone settings (texts.Read read) try = TextsAlone settings read.items try
ReadAlone settings (texts.Fault fault) try = IsNotTried fault try

-- what is tried of the texts of these sources, with nothing from outside
abbrev pub AloneTries : Settings → List (List ℕ × Option (List ℕ)) → ToTry → Type 0
AloneTries settings sources try =
    (read : SourceTexts) × IsRead sources read × ReadAlone settings read try

-- ## Where the outcomes of a log come, and its settings count

-- what is tried of these texts with what a log gives, or with the fault that it has
abbrev pub GivenTries : List (List ℕ) → LogInputs → ToTry → Type 0
GivenTries texts (inputs.Given outcomes settings) try = IsTried texts outcomes.items settings try
GivenTries texts (inputs.Fault fault) try = IsNotTried fault try

-- what is tried of these texts by a log
abbrev pub LogTries : List ℕ → List (List ℕ) → ToTry → Type 0
LogTries log texts try =
    (given : LogInputs) × LogGives log (length texts) given × GivenTries texts given try

-- what is tried by a log where the texts are scripts, or have a fault
abbrev pub RunByLog : List ℕ → List (List ℕ) → ToRun → ToTry → Type 0
RunByLog log texts (runs.Scripts scripts) try = LogTries log texts try
RunByLog log texts (runs.Fault fault) try = IsNotTried fault try

-- the texts are looked at first, and then what is tried of them by a log
abbrev pub TextsByLog : List ℕ → List (List ℕ) → ToTry → Type 0
TextsByLog log texts try =
    (run : ToRun) × IsToRun true texts run × RunByLog log texts run try

-- what is tried of a log and texts that were read, or where they were not
abbrev pub ReadByLog : ToReplay → ToTry → Type 0
ReadByLog (reads.Texts log texts) try = TextsByLog log texts.items try
ReadByLog (reads.Fault fault) try = IsNotTried fault try

-- What is tried of the sources of a log and of these scripts. The first fault counts: the number of
-- scripts, a log that cannot be read, a script that cannot be read, one that is not a script, a bad
-- expectation, the log's, another number of threads
abbrev pub ByLogTries :
    List ℕ × Option (List ℕ) → List (List ℕ × Option (List ℕ)) → ToTry → Type 0
ByLogTries log sources try =
    (read : ToReplay) × IsToReplay log sources read × ReadByLog read try

-- what is tried where a log is given or not
abbrev pub Tries : Settings → Option (List ℕ × Option (List ℕ))
    → List (List ℕ × Option (List ℕ)) → ToTry → Type 0
Tries settings None sources try = AloneTries settings sources try
Tries settings (Some log) sources try = ByLogTries log sources try
