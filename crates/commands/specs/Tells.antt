-- Believed: a contract of a command stands on it.
-- What is reported of the replay of a log with scripts.
use Rattle.std.specs.Prelude.{◌≡◌, ℕ, List, length, Option, Some, None, Result, Ok, Err}
use Rattle.machine.specs.declared.stop.Stop.TheVariants as stops
use Rattle.input_log.specs.Fronts.{IsFront}
use Rattle.input_log.specs.declared.log.LogText.{LogText}
use Rattle.replayer.specs.Replay.{Replays}
use Rattle.replayer.specs.declared.fault.ReplayFault.{ReplayFault}
use Rattle.replayer.specs.declared.fault.ReplayFault.TheVariants as replay_fault
use Rattle.replayer.specs.declared.replayed.Replayed.{Replayed}
use Rattle.thread_scripts.specs.Faults.{Fault}
use Rattle.thread_scripts.specs.declared.line.Line.{Line}
use Rattle.command_texts.specs.Printing.{no_memory, script_fault}
use Rattle.command_texts.specs.declared.printed.Printed.{Printed}
use Rattle.command_inputs.specs.Faults.{log_has, no_log_printed}
use Rattle.commands.specs.declared.told.Told.{Told}
use Rattle.commands.specs.declared.told.Told.TheVariants as tells

-- what is printed where the log has another number of threads than there are scripts
abbrev pub ThreadsPrint : List ℕ → ℕ → Printed → Type 0
ThreadsPrint text count printed = (log : LogText) × IsFront text log
    × (printed ≡ log_has log.header.threads count)

-- What is reported of a replay of a text with so many scripts that did not come to its
-- end: a run that stopped, or what is printed where there was none
abbrev pub FaultTells : List ℕ → ℕ → ReplayFault → Told → Type 0
FaultTells text count (replay_fault.EndOfLog thread transcripts) told = told
    ≡ tells.Run transcripts (Some (stops.EndOfLog thread))
FaultTells text count (replay_fault.Diverged thread number transcripts) told = told
    ≡ tells.Run transcripts (Some (stops.Diverged thread number))
FaultTells text count (replay_fault.ClockFull transcripts) told = told
    ≡ tells.Run transcripts (Some stops.ClockFull)
FaultTells text count (replay_fault.Log fault) told = told ≡ tells.Fault (no_log_printed fault)
FaultTells text count replay_fault.Threads told = (printed : Printed)
    × ThreadsPrint text count printed × (told ≡ tells.Fault printed)
FaultTells text count replay_fault.Memory told = told ≡ tells.Fault no_memory

-- what is reported of a replay that came to its end, or of one that did not
abbrev pub AnswerTells : List ℕ → ℕ → Result Replayed ReplayFault → Told → Type 0
AnswerTells text count (Ok replayed) told = told ≡ tells.Run replayed.transcripts None
AnswerTells text count (Err fault) told = FaultTells text count fault told

-- the replay of a text with these scripts is reported
abbrev pub RunTells : List ℕ → List (List Line) → Told → Type 0
RunTells text scripts told = (answer : Result Replayed ReplayFault) × Replays text scripts answer
    × AnswerTells text (length scripts) answer told

-- what is reported of scripts, or of the first fault among them
abbrev pub ScriptsTell : List ℕ → Result (List (List Line)) (ℕ × Fault) → Told → Type 0
ScriptsTell text (Ok scripts) told = RunTells text scripts told
ScriptsTell text (Err (i, fault)) told = told ≡ tells.Fault (script_fault i fault)
