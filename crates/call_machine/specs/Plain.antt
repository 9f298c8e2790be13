-- Believed: a contract of the headline stands on it.
-- The plain run of scripts, by the lock machine.
use Rattle.input_log.specs.Headers.{header_for}
use Rattle.std.specs.Prelude.{◌≡◌, ◌<◌, ℕ, List, length, map, Option, Some, None, Bool, true, false}
use Rattle.std.specs.Prelude.{◌&&◌, ◌==◌, nat_le, Result, Ok, Err}
use Rattle.posix_terms.specs.declared.limits.TheConstants.Limits as limit
use Rattle.input_log.specs.Format.{text_of}
use Rattle.input_log.specs.declared.log.Header.{Header}
use Rattle.input_log.specs.declared.log.LogText.{LogText}
pub use Rattle.lock_machine.specs.Threads.{all_true}
use Rattle.lock_model.specs.Machine.{Setup}
use Rattle.lock_model.specs.Schedule.{IsOver, plain_run}
use Rattle.lock_model.specs.State as lock
use Rattle.lock_model.specs.State.{Phase, State, live_clocks, thread_of}
use Rattle.lock_model.specs.State.Phase.{Ended, Outside}
use Rattle.logical_clocks.specs.TurnOrder.{turn_holder}
use Rattle.call_machine.specs.History.{transcripts_of}
use Rattle.lock_model.specs.Rows.{shown}
use Rattle.call_machine.specs.Logs.{plain_records}
use Rattle.call_machine.specs.Diverging.{diverging}
use Rattle.call_machine.specs.Setup.{Inputs, first_state, setup_of}
use Rattle.call_machine.specs.declared.fault.PlainFault.{PlainFault}
use Rattle.call_machine.specs.declared.fault.PlainFault.TheVariants as plain_fault
use Rattle.machine.specs.Starting.{are_settings}
use Rattle.machine.specs.declared.stop.Stop.{Stop}
use Rattle.machine.specs.declared.stop.Stop.TheVariants as stop
use Rattle.call_machine.specs.declared.plain.Plain.{Plain}

-- a thread at this phase has ended
abbrev pub has_ended : Phase → Bool
has_ended Ended = true
has_ended phase = false

-- what a thread is stuck for that has the turn: an outcome that is not there, or room on its clock
abbrev pub stuck_in : Phase → ℕ → Stop
stuck_in (Outside job) i = stop.EndOfLog i
stuck_in phase i = stop.ClockFull

-- by whoever has the turn: nobody has, once all threads have ended
abbrev pub stop_by : State → Option ℕ → Option Stop
stop_by s (Some i) = Some (stuck_in (thread_of s i).phase i)
stop_by s None = None

-- by the thread at which the run diverges
abbrev pub stop_of : State → Option ℕ → Option Stop
stop_of s (Some i) = Some (stop.Diverged i (length (thread_of s i).came))
stop_of s None = stop_by s (turn_holder (live_clocks s))

-- the header of the log of a run: its version, the number of its threads, and its settings
abbrev pub header_of : Inputs → Header
header_of input = header_for input.settings (length input.scripts)

-- the log of so many events of a plain run: its end stands where all threads ended
abbrev pub log_of : Inputs → ℕ → List Bool → LogText
log_of input count ended =
    record {
      header = header_of input;
      records = plain_records input.settings.version (setup_of input) count (first_state input);
      closed = all_true ended;
    }

-- what a plain run shows that came to this state after so many events
abbrev pub plain_of : Inputs → ℕ → State → Plain
plain_of input count last =
    let rows = map shown last.rows in
    let ended = map (λ (t : lock.Thread). has_ended t.phase) last.threads in
    record {
      transcripts = transcripts_of (length last.threads) rows;
      history = record { rows = rows; asked = map (λ (t : lock.Thread). t.asked) last.threads };
      log = text_of (log_of input count ended);
      stop = stop_of last (diverging (setup_of input) last);
    }

-- 1 to 16 scripts, with as many lists of outcomes
abbrev pub counts_fit : ℕ → ℕ → Bool
counts_fit scripts outcomes =
    nat_le 1 scripts && nat_le scripts limit.THREADS && (outcomes == scripts)

-- these scripts and lists of outcomes are as many as the threads of a run can be
abbrev pub are_threads : Inputs → Bool
are_threads input = counts_fit (length input.scripts) (length input.outcomes)

-- so many events of the plain schedule lead to this state, none of which is after a state where
-- the run diverges
pub record GoesTo (setup : Setup) (first : State) (count : ℕ) (last : State) : Type 0 where
  pub reached : plain_run setup count first ≡ last
  pub straight : (k : ℕ) → k < count → diverging setup (plain_run setup k first) ≡ None

-- this is the plain run: it goes on until it diverges, or no event is next
pub record IsPlainRun (input : Inputs) (plain : Plain) : Type 0 where
  pub threads : are_threads input ≡ true
  pub settings : are_settings input.settings ≡ true
  pub count : ℕ
  pub last : State
  pub goes : GoesTo (setup_of input) (first_state input) count last
  pub ends : diverging (setup_of input) last ≡ None → IsOver (setup_of input) last
  pub shows : plain ≡ plain_of input count last

-- a run was made, or there is none: for the number of scripts or of lists, then for the settings,
-- and only then since memory ran out
abbrev pub Runs : Result Plain PlainFault → Inputs → Type 0
Runs (Ok plain) input = IsPlainRun input plain
Runs (Err plain_fault.Threads) input = are_threads input ≡ false
Runs (Err plain_fault.Settings) input =
    (are_threads input ≡ true) × (are_settings input.settings ≡ false)
Runs (Err plain_fault.Memory) input =
    (are_threads input ≡ true) × (are_settings input.settings ≡ true)

-- a plain run shows one thing alone
abbrev pub OnePlainRun : Type 0
OnePlainRun = (input : Inputs) (plain other : Plain) → IsPlainRun input plain
    → IsPlainRun input other → plain ≡ other
