-- Believed: a contract of the headline stands on it.
-- What is true of each machine at any time.
use Rattle.input_log.specs.Headers.{header_for}
use Rattle.std.specs.Prelude.{◌≡◌, ℕ, Bool, true, false, length, Option, Some, if◌then◌else◌, map}
use Rattle.input_log.specs.Writing.{IsSound}
use Rattle.input_log.specs.declared.log.Header.{Header}
use Rattle.lock_machine.specs.Whole.{Whole, settings_in}
use Rattle.lock_model.specs.State.{State, thread_of}
use Rattle.posix_terms.specs.declared.limits.TheConstants.Limits as limit
use Rattle.machine.specs.DoorsThere.{DoorsThere}
use Rattle.machine.specs.Records.{as_logged, outcomes_of}
use Rattle.machine.specs.Runs.{IsEnd}
use Rattle.machine.specs.Shown.{Shown}
use Rattle.machine.specs.declared.stop.Stop.{Stop}
use Rattle.machine.specs.declared.stop.Stop.TheVariants as stop

-- of so many threads under its settings
abbrev pub header_of : Whole → Header
header_of w = header_for (settings_in w) (length w.threads)

-- the machine is stopped because its sink failed
abbrev pub is_sink : Option Stop → Bool
is_sink (Some stop.Sink) = true
is_sink o = false

-- the run stopped because its threads strayed
abbrev pub is_strayed : Option Stop → Bool
is_strayed (Some stop.Strayed) = true
is_strayed o = false

-- a sink failed exactly when this is why its machine was stopped, and then once; and no machine
-- itself finds that threads strayed
pub record StopsFor (failures : ℕ) (stopped : Option Stop) : Type 0 where
  pub sink : failures ≡ (if is_sink stopped then 1 else 0)
  pub strayed : is_strayed stopped ≡ false

-- a run leads to it, whose outcomes are by thread those that its log has, with clocks in version 2
-- alone; the log's writer failed exactly when that was why the machine was stopped, and no machine
-- itself finds that threads strayed; and each door is where it belongs
pub record IsKept (D : Type 0) (m : Shown D) : Type 0 where
  pub end : State
  pub ends : IsEnd m.whole end
  pub header : m.log.header ≡ header_of m.whole
  pub sound : IsSound m.log
  pub came : (i : ℕ)
      → map (as_logged m.whole.settings.version) (thread_of end i).came
      ≡ outcomes_of i m.log.records
  pub unclosed : m.log.closed ≡ false
  pub failed : m.log.failed ≡ is_sink m.stop
  pub strayed : is_strayed m.stop ≡ false
  pub doors : length m.doors ≡ limit.OBJECTS
  pub there : DoorsThere D m.whole m.doors
