-- Believed: a contract of a command stands on it.
-- A replay as far as it came.
use Rattle.std.specs.Prelude.{◌≡◌, ℕ, List, Option, Some, None}
use Rattle.call_machine.specs.declared.plain.Plain.{Plain}
use Rattle.input_log.specs.declared.log.LogText.{LogText}
use Rattle.machine.specs.declared.stop.Stop.{Stop}
use Rattle.replayer.specs.Outcomes.{first_unused}
use Rattle.replayer.specs.Replay.{IsRunByText}
use Rattle.replayer.specs.Threads.{stop_told}
use Rattle.thread_scripts.specs.declared.line.Line.{Line}

-- the stop of a run by a log: where nothing stopped it, it is that of a record that was not used
abbrev pub stop_by : Option Stop → Option (ℕ × ℕ) → Option Stop
stop_by (Some cause) unused = Some cause
stop_by None unused = stop_told None unused

-- the scripts were run by the log at the front of a text; where nothing stopped the run, a record
-- that was not used is a divergence
pub record IsReplayRun (text : List ℕ) (scripts : List (List Line)) (log : LogText) (plain : Plain)
    : Type 0 where
  pub run : Plain
  pub by_log : IsRunByText text scripts log run
  pub stops : plain ≡ record run {
    stop = stop_by run.stop (first_unused log.header.threads log.records run.history.rows);
  }
