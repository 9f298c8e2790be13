-- Believed: a contract of a command stands on it.
-- What `detio plain` prints for the scripts that it reads.
use Rattle.std.specs.Prelude.{◌≡◌, ℕ, Bool, true, false, replicate, List, [], length}
use Rattle.std.specs.Prelude.{Option, None}
use Rattle.posix_terms.specs.declared.transcript.Settings.{Settings}
use Rattle.thread_scripts.specs.declared.line.Line.{Line}
use Rattle.call_machine.specs.Plain.{IsPlainRun}
use Rattle.machine.specs.Starting.{are_settings}
use Rattle.call_machine.specs.Setup.{Inputs}
use Rattle.call_machine.specs.declared.plain.Plain.{Plain}
use Rattle.command_texts.specs.declared.printed.Printed.{Printed}
use Rattle.command_inputs.specs.Expects.{IsToRun, RunShows}
use Rattle.command_inputs.specs.Faults.{bad_settings}
use Rattle.command_inputs.specs.Sources.{IsRead}
use Rattle.command_inputs.specs.declared.settings.RunOptions.{RunOptions}
use Rattle.command_inputs.specs.declared.sources.SourceTexts.{SourceTexts}
use Rattle.command_inputs.specs.declared.sources.SourceTexts.TheVariants as texts
use Rattle.command_inputs.specs.declared.running.ToRun.{ToRun}
use Rattle.command_inputs.specs.declared.running.ToRun.TheVariants as runs

-- the run of scripts, none of which has outcomes from outside
abbrev pub inputs_of : Settings → List (List Line) → Inputs
inputs_of settings scripts = record {
  scripts = scripts;
  outcomes = replicate (length scripts) [];
  settings = settings;
}

-- what is printed for a run of the scripts of these texts, whether its settings are in range or not
abbrev pub RunPrints : Bool → RunOptions → List (List ℕ) → Inputs → Printed → Type 0
RunPrints false options texts input printed = printed ≡ bad_settings
RunPrints true options texts input printed =
    (plain : Plain) × IsPlainRun input plain
    × RunShows options texts plain.transcripts plain.history.rows None plain.stop printed

-- what is printed for what is to be run of them
abbrev pub ToRunPrints : Settings → RunOptions → List (List ℕ) → ToRun → Printed → Type 0
ToRunPrints settings options texts (runs.Scripts scripts) printed =
    RunPrints (are_settings settings) options texts (inputs_of settings scripts.items) printed
ToRunPrints settings options texts (runs.Fault fault) printed = printed ≡ fault

-- what is printed for texts
abbrev pub TextsPrint : Settings → RunOptions → List (List ℕ) → Printed → Type 0
TextsPrint settings options texts printed =
    (run : ToRun) × IsToRun options.expect texts run
    × ToRunPrints settings options texts run printed

-- what is printed for the texts of sources, or where they were not read
abbrev pub ReadPrints : Settings → RunOptions → SourceTexts → Printed → Type 0
ReadPrints settings options (texts.Read read) printed =
    TextsPrint settings options read.items printed
ReadPrints settings options (texts.Fault fault) printed = printed ≡ fault

-- What `detio plain` prints for these sources. The first of its faults counts: the number of
-- scripts, one that cannot be read, one that is not a script, a bad expectation, the settings
abbrev pub PlainPrints : Settings → RunOptions → List (List ℕ × Option (List ℕ)) → Printed → Type 0
PlainPrints settings options sources printed =
    (read : SourceTexts) × IsRead sources read × ReadPrints settings options read printed
