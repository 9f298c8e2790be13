-- Believed: a contract of a command stands on it.
-- What comes of the replay of a log with scripts: a run as far as it came, with its history.
use Rattle.std.specs.Prelude.{◌≡◌, ◌⊎◌, ℕ, List, map, length, Option}
use Rattle.call_machine.specs.declared.plain.Plain.{Plain}
use Rattle.input_log.specs.declared.log.LogText.{LogText}
use Rattle.machine.specs.declared.stop.Stop.{Stop}
use Rattle.posix_terms.specs.declared.transcript.HistoryRow.{HistoryRow}
use Rattle.posix_terms.specs.declared.transcript.Row.{Row}
use Rattle.replayer.specs.Replay.{IsNoReplay}
use Rattle.replayer.specs.Runs.{IsReplayRun}
use Rattle.replayer.specs.Threads.{AtEnd, IsReplayedBy}
use Rattle.replayer.specs.declared.fault.ReplayFault.{ReplayFault}
use Rattle.replayer.specs.declared.fault.ReplayFault.TheVariants as replay_fault
use Rattle.thread_scripts.specs.Meaning.{start_of}
use Rattle.thread_scripts.specs.declared.actor.ScriptState.{ScriptState}
use Rattle.thread_scripts.specs.declared.line.Line.{Line}
use Rattle.command_texts.specs.Printing.{no_memory}
use Rattle.command_texts.specs.declared.printed.Printed.{Printed}
use Rattle.command_inputs.specs.Faults.{no_log_printed}
use Rattle.commands.specs.Tells.{ThreadsPrint}
use Rattle.commands.specs.declared.ran.Ran.{Ran}
use Rattle.commands.specs.declared.ran.Ran.TheVariants as came
use Rattle.commands.specs.declared.ran.Run.{Run}

-- what is printed where so many scripts were not run by a text
abbrev pub NoReplayPrints : List ℕ → ℕ → ReplayFault → Printed → Type 0
NoReplayPrints text count (replay_fault.Log fault) printed = printed ≡ no_log_printed fault
NoReplayPrints text count replay_fault.Threads printed = ThreadsPrint text count printed
NoReplayPrints text count fault printed = printed ≡ no_memory

-- so many scripts were not run by a text, and this is printed for it
abbrev pub IsNotRun : List ℕ → ℕ → Printed → Type 0
IsNotRun text count printed =
    (fault : ReplayFault) × IsNoReplay text count fault × NoReplayPrints text count fault printed

-- the threads of a run saw this, at these turns, and it stopped so
abbrev pub HasRun : List (List Row) → List HistoryRow → Option Stop → Run → Type 0
HasRun transcripts rows stop run =
    (run.transcripts ≡ transcripts) × (run.history ≡ rows) × (run.stop ≡ stop)

-- the replay of a text with these scripts went so far
abbrev pub RunRan : List ℕ → List (List Line) → Ran → Type 0
RunRan text scripts (came.Run run) =
    (log : LogText) × (plain : Plain) × IsReplayRun text scripts log plain
    × HasRun plain.transcripts plain.history.rows plain.stop run
RunRan text scripts (came.Fault printed) = IsNotRun text (length scripts) printed

-- a replay by threads of a text with these scripts: what stands at its end, and why it stopped
pub record IsByThreads (text : List ℕ) (scripts : List (List Line)) (last : AtEnd ScriptState)
    (stop : Option Stop) : Type 0 where
  pub taken : List ℕ
  pub failures : ℕ
  pub run : IsReplayedBy (λ s. s) text (map start_of scripts) last taken failures stop

-- a replay by threads of a text with these scripts went so far
abbrev pub ThreadsRan : List ℕ → List (List Line) → Ran → Type 0
ThreadsRan text scripts (came.Run run) =
    (last : AtEnd ScriptState) × (stop : Option Stop) × IsByThreads text scripts last stop
    × HasRun last.transcripts last.history.rows stop run
ThreadsRan text scripts (came.Fault printed) = IsNotRun text (length scripts) printed
