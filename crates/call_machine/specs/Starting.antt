-- Internal: no contract of the headline or of a command stands on it.
-- A run at its start, and what it comes to.
use Rattle.std.specs.Prelude.{ℕ, List, ◌++◌, get_or, length, map, Option, Some, None, false}
use Rattle.input_log.specs.Format.{closing, header_text}
use Rattle.input_log.specs.declared.log.Header.{Header}
use Rattle.thread_scripts.specs.Meaning.{start_of}
use Rattle.thread_scripts.specs.declared.line.Line.{Line}
use Rattle.call_machine.specs.History.{transcripts_of}
use Rattle.call_machine.specs.Logs.{Written}
use Rattle.call_machine.specs.Playing.{Played}
use Rattle.lock_machine.specs.Starting.{first_whole}
use Rattle.lock_machine.specs.Whole.{Whole}
use Rattle.lock_machine.specs.Views.{clocks_of, no_thread}
use Rattle.machine.specs.declared.stop.Stop.{Stop}
use Rattle.machine.specs.declared.stop.Stop.TheVariants as stop
use Rattle.logical_clocks.specs.TurnOrder.{turn_holder}
use Rattle.posix_terms.specs.declared.outcome.Given.{Given}
use Rattle.call_machine.specs.declared.players.Player.{Player}
use Rattle.call_machine.specs.declared.plain.Plain.{Plain}
use Rattle.lock_machine.specs.declared.thread.Phase.{Phase}
use Rattle.lock_machine.specs.declared.thread.Phase.TheVariants as phase
use Rattle.lock_machine.specs.Threads.{Thread, have_ended}
pub use Rattle.lock_machine.specs.Threads.{is_ended}
pub use Rattle.input_log.specs.Headers.{settings_of}

-- a script before its first line
abbrev pub first_player : List Line → Player
first_player script = record { actor = start_of script; last = None; stuck = false }

-- a run of these scripts before its first event, with the header of its log
abbrev pub first_played : Header → List (List Line) → List (List Given) → Played
first_played header scripts outcomes =
    record {
      whole = first_whole (settings_of header) (length scripts);
      players = map first_player scripts;
      outcomes = outcomes;
      log = record { text = header_text header; records = 0 };
    }

-- what a thread is stuck for that has the turn
abbrev pub stuck_for : Phase → ℕ → Stop
stuck_for (phase.Outside outing) i = stop.EndOfLog i
stuck_for p i = stop.ClockFull

-- why a run goes no further, by the thread that has the turn; where none has it, all have ended
abbrev pub stop_for : List Thread → Option ℕ → Option Stop
stop_for threads (Some i) = let t : Thread = get_or threads i no_thread in
    Some (stuck_for t.phase i)
stop_for threads None = None

-- why a run stopped that diverged at this thread, or not
abbrev pub stop_told : List Thread → Option ℕ → Option Stop
stop_told threads (Some i) = let t : Thread = get_or threads i no_thread in
    Some (stop.Diverged i t.came)
stop_told threads None = stop_for threads (turn_holder (clocks_of threads))

-- what is reported of a run that has come to its end, or diverged at this thread
abbrev pub told : Option ℕ → Whole → Written → Plain
told diverged w log =
    record {
      transcripts = transcripts_of (length w.threads) w.rows;
      history = record { rows = w.rows; asked = map (λ (t : Thread). t.asked) w.threads };
      log = log.text ++ closing (have_ended w.threads) log.records;
      stop = stop_told w.threads diverged;
    }
