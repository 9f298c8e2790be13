-- Believed: a contract of a command stands on it.
-- What a log gives for the runs of scripts, or what is printed for its fault.
use Rattle.std.specs.Prelude.{◌≡◌, ◌≢◌, ◌⊎◌, ℕ, List}
use Rattle.input_log.specs.Fronts.{HasNoFront, IsFront}
use Rattle.input_log.specs.Headers.{settings_of}
use Rattle.input_log.specs.declared.fault.LogFault.{LogFault}
use Rattle.input_log.specs.declared.log.LogText.{LogText}
use Rattle.command_inputs.specs.Faults.{log_has, no_log_printed}
use Rattle.explore_commands.specs.Undated.{undated_outcomes}
use Rattle.explore_commands.specs.declared.log_inputs.LogInputs.{LogInputs}
use Rattle.explore_commands.specs.declared.log_inputs.LogInputs.TheVariants as inputs

-- what this log gives for so many scripts: its outcomes, at whatever turns, and its settings; or it
-- is one of another number of threads
abbrev pub FrontGives : LogText → ℕ → LogInputs → Type 0
FrontGives log scripts (inputs.Given outcomes settings) =
    (log.header.threads ≡ scripts) × (outcomes.items ≡ undated_outcomes scripts log.records)
    × (settings ≡ settings_of log.header)
FrontGives log scripts (inputs.Fault printed) =
    (log.header.threads ≢ scripts) × (printed ≡ log_has log.header.threads scripts)

-- no log stands at the front of this text, and this is printed
abbrev pub IsNoLog : List ℕ → LogInputs → Type 0
IsNoLog text (inputs.Given outcomes settings) = ⊥
IsNoLog text (inputs.Fault printed) =
    (fault : LogFault) × HasNoFront text fault × (printed ≡ no_log_printed fault)

-- what the log at the front of a text gives for so many scripts
abbrev pub LogGives : List ℕ → ℕ → LogInputs → Type 0
LogGives text scripts given =
    ((log : LogText) × IsFront text log × FrontGives log scripts given) ⊎ IsNoLog text given
