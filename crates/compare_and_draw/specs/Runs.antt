-- Believed: a contract of a command stands on it.
-- What comes of the runs of scripts that are drawn.
use Rattle.std.specs.Prelude.{◌≡◌, ℕ, Bool, true, false, List}
use Rattle.posix_terms.specs.declared.transcript.Settings.{Settings}
use Rattle.thread_scripts.specs.declared.line.Line.{Line}
use Rattle.machine.specs.Starting.{are_settings}
use Rattle.call_machine.specs.Plain.{IsPlainRun}
use Rattle.call_machine.specs.Setup.{Inputs}
use Rattle.call_machine.specs.declared.plain.Plain.{Plain}
use Rattle.command_inputs.specs.Expects.{IsToRun}
use Rattle.command_inputs.specs.Faults.{bad_settings}
use Rattle.command_inputs.specs.declared.running.ToRun.{ToRun}
use Rattle.command_inputs.specs.declared.running.ToRun.TheVariants as runs
use Rattle.commands.specs.Plains.{inputs_of}
use Rattle.commands.specs.Ran.{HasRun}
use Rattle.commands.specs.declared.ran.Ran.{Ran}
use Rattle.commands.specs.declared.ran.Ran.TheVariants as came

-- this run came
abbrev pub HasRan : Plain → Ran → Type 0
HasRan plain (came.Run run) = HasRun plain.transcripts plain.history.rows plain.stop run
HasRan plain (came.Fault printed) = ⊥

-- what comes of a plain run, whether its settings are in range or not
abbrev pub InputComes : Bool → Inputs → Ran → Type 0
InputComes false input ran = ran ≡ came.Fault bad_settings
InputComes true input ran = (plain : Plain) × IsPlainRun input plain × HasRan plain ran

-- what comes of the plain run of scripts, none of which has outcomes from outside
abbrev pub PlainComes : Settings → List (List Line) → Ran → Type 0
PlainComes settings scripts ran =
    InputComes (are_settings settings) (inputs_of settings scripts) ran

-- what comes of what is to be run of texts, where this comes of scripts
abbrev pub ToRunComes : (List (List Line) → Ran → Type 0) → ToRun → Ran → Type 0
ToRunComes Comes (runs.Scripts scripts) ran = Comes scripts.items ran
ToRunComes Comes (runs.Fault fault) ran = ran ≡ came.Fault fault

-- what comes of texts, or what is printed for the first that is not a script
abbrev pub TextsCome : (List (List Line) → Ran → Type 0) → List (List ℕ) → Ran → Type 0
TextsCome Comes texts ran = (run : ToRun) × IsToRun false texts run × ToRunComes Comes run ran
