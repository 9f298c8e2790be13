-- Believed: a contract of the headline stands on it.
-- What a replay gives: the plain run under the outcomes of a log.
use Rattle.std.specs.Prelude.{◌≡◌, ◌≢◌, ℕ, List, Option, Some, None, length, Result, Ok, Err}
use Rattle.call_machine.specs.Plain.{IsPlainRun}
use Rattle.call_machine.specs.Setup.{Inputs}
use Rattle.machine.specs.declared.stop.Stop.{Stop}
use Rattle.machine.specs.declared.stop.Stop.TheVariants as stop
use Rattle.call_machine.specs.declared.plain.Plain.{Plain}
use Rattle.input_log.specs.Fronts.{HasNoFront, IsFront}
use Rattle.input_log.specs.declared.fault.LogFault.{LogFault}
use Rattle.input_log.specs.declared.fault.LogFault.TheVariants as log_fault
use Rattle.input_log.specs.declared.log.LogText.{LogText}
use Rattle.thread_scripts.specs.declared.line.Line.{Line}
use Rattle.replayer.specs.Outcomes.{first_unused, outcomes_by, settings_of}
use Rattle.replayer.specs.declared.fault.ReplayFault.{ReplayFault}
use Rattle.replayer.specs.declared.fault.ReplayFault.TheVariants as replay_fault
use Rattle.replayer.specs.declared.replayed.Replayed.{Replayed}

-- a log's fault, as a replay's
abbrev pub told_of : LogFault → ReplayFault
told_of log_fault.Memory = replay_fault.Memory
told_of fault = replay_fault.Log fault

-- these scripts with the outcomes of a log, under its header's settings
abbrev pub inputs_of : LogText → List (List Line) → Inputs
inputs_of log scripts = record {
  scripts = scripts;
  outcomes = outcomes_by (length scripts) log.records;
  settings = settings_of log.header;
}

-- this is the plain run of some scripts, one for each of the log's threads
abbrev pub IsRunOf : LogText → Plain → Type 0
IsRunOf log plain = (scripts : List (List Line)) × (log.header.threads ≡ length scripts)
    × IsPlainRun (inputs_of log scripts) plain

-- what is returned where all threads have ended: a record that was not used is a divergence
abbrev pub ended : Plain → Option (ℕ × ℕ) → Result Replayed ReplayFault
ended plain None = Ok (record { transcripts = plain.transcripts; history = plain.history })
ended plain (Some (thread, number)) = Err (replay_fault.Diverged thread number plain.transcripts)

-- what is returned for a plain run, by its stop; a plain run has no other stops
abbrev pub Tells : LogText → Plain → Option Stop → Result Replayed ReplayFault → Type 0
Tells log plain None result = result
    ≡ ended plain (first_unused log.header.threads log.records plain.history.rows)
Tells log plain (Some (stop.EndOfLog thread)) result = result
    ≡ Err (replay_fault.EndOfLog thread plain.transcripts)
Tells log plain (Some (stop.Diverged thread number)) result = result
    ≡ Err (replay_fault.Diverged thread number plain.transcripts)
Tells log plain (Some stop.ClockFull) result = result
    ≡ Err (replay_fault.ClockFull plain.transcripts)
Tells log plain (Some other) result = ⊥

-- the scripts were run by the log at the front of a text, which has as many threads
pub record IsRunByText (text : List ℕ) (scripts : List (List Line)) (log : LogText)
    (plain : Plain) : Type 0 where
  pub front : IsFront text log
  pub threads : log.header.threads ≡ length scripts
  pub run : IsPlainRun (inputs_of log scripts) plain

-- and this is returned for the run
abbrev pub IsReplay : List ℕ → List (List Line) → Result Replayed ReplayFault → Type 0
IsReplay text scripts result =
    (log : LogText) × (plain : Plain)
    × IsRunByText text scripts log plain × Tells log plain plain.stop result

-- why so many scripts were not run by a text: it has no log at
-- its front, or one of another number of
-- threads; or there was no memory, which is never reported as a fault of the log
abbrev pub IsNoReplay : List ℕ → ℕ → ReplayFault → Type 0
IsNoReplay text threads (replay_fault.Log log_fault.Memory) = ⊥
IsNoReplay text threads (replay_fault.Log fault) = HasNoFront text fault
IsNoReplay text threads replay_fault.Threads =
    (log : LogText) × IsFront text log × (log.header.threads ≢ threads)
IsNoReplay text threads replay_fault.Memory = Unit {0}
IsNoReplay text threads fault = ⊥

-- what a replay of a text with these scripts gives: what is
-- returned for the plain run, or why there was none
abbrev pub Replays : List ℕ → List (List Line) → Result Replayed ReplayFault → Type 0
Replays text scripts (Err (replay_fault.Log fault)) =
    IsNoReplay text (length scripts) (replay_fault.Log fault)
Replays text scripts (Err replay_fault.Threads) =
    IsNoReplay text (length scripts) replay_fault.Threads
Replays text scripts (Err replay_fault.Memory) =
    IsNoReplay text (length scripts) replay_fault.Memory
Replays text scripts result = IsReplay text scripts result
