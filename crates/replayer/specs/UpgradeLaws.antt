-- Believed: a contract of the headline stands on it.
-- The upgrade of the log that a run wrote: the log that it writes in version 2.
use Rattle.std.specs.Prelude.{◌≡◌, ◌≢◌, ℕ, false, List, length, map, Bool, true, Option, Some}
use Rattle.std.specs.Prelude.{is_some, Err}
use Rattle.call_machine.specs.Covered.{IsCovered}
use Rattle.call_machine.specs.History.{Past}
use Rattle.call_machine.specs.Plain.{IsPlainRun, are_threads}
use Rattle.call_machine.specs.RunLogs.{IsRunUnder, in_version, run_log}
use Rattle.call_machine.specs.Setup.{Inputs}
use Rattle.call_machine.specs.Upgraded.{upgraded}
use Rattle.call_machine.specs.declared.plain.Plain.{Plain}
use Rattle.input_log.specs.Faults.{is_other_version}
use Rattle.input_log.specs.Format.{text_of}
use Rattle.input_log.specs.Fronts.{IsFront}
use Rattle.input_log.specs.declared.log.LogText.{LogText}
use Rattle.lock_model.specs.Machine.{Event}
use Rattle.machine.specs.Starting.{are_settings, header_for}
use Rattle.machine.specs.declared.stop.Stop.{Stop}
use Rattle.machine.specs.declared.stop.Stop.TheVariants as stop
use Rattle.posix_terms.specs.declared.transcript.HistoryRow.{HistoryRow}
use Rattle.posix_terms.specs.declared.transcript.Row.{Row}
use Rattle.posix_terms.specs.declared.transcript.Settings.{Settings}
use Rattle.recorder.specs.Each.{ArePlayedFrom}
use Rattle.recorder.specs.Recorded.{IsRun}
use Rattle.replayer.specs.Replay.{Replays}
use Rattle.replayer.specs.Upgrade.{IsNoUpgrade, IsUpgrade}
use Rattle.replayer.specs.declared.fault.ReplayFault.{ReplayFault}
use Rattle.replayer.specs.declared.fault.ReplayFault.TheVariants as replay_fault
use Rattle.thread_scripts.specs.Meaning.{start_of}
use Rattle.thread_scripts.specs.declared.actor.ScriptState.{ScriptState}
use Rattle.thread_scripts.specs.declared.line.Line.{Line}
use Rattle.worker_notes.specs.declared.own.Own.{Own}

-- the upgrade of this text with these scripts is that text; whoever answers otherwise had no memory
pub record IsUpgradedTo (text : List ℕ) (scripts : List (List Line)) (two : List ℕ) : Type 0 where
  pub is : IsUpgrade text scripts two
  pub only : (bytes : List ℕ) → IsUpgrade text scripts bytes → bytes ≡ two
  pub refused : (fault : ReplayFault) → IsNoUpgrade text scripts fault → fault ≡ replay_fault.Memory

-- any run of the lock machine under scripts, in whatever order its events come: of each text with
-- its log of version 1 at the front
abbrev pub RunsAreUpgraded : Type 0
RunsAreUpgraded =
    (input : Inputs) (events : List Event) (closed : Bool) (text : List ℕ)
    → are_threads input ≡ true → are_settings (in_version 1 input).settings ≡ true
    → IsRunUnder input events → IsFront text (run_log (in_version 1 input) events closed)
    → IsUpgradedTo text input.scripts (text_of (run_log (in_version 2 input) events closed))

-- the plain run, in both versions
abbrev pub PlainRunsAreUpgraded : Type 0
PlainRunsAreUpgraded =
    (input : Inputs) (one two : Plain)
    → IsPlainRun (in_version 1 input) one → IsPlainRun (in_version 2 input) two
    → IsUpgradedTo one.log input.scripts two.log

-- the log at the front of a text, with the clocks of these rows
pub record IsUpgradedBy (rows : List HistoryRow) (text : List ℕ) (scripts : List (List Line))
    : Type 0 where
  pub log : LogText
  pub front : IsFront text log
  pub to : IsUpgradedTo text scripts (text_of (upgraded rows log))
  -- that is a log of version 2, whose records are by thread the
  -- outcomes of the rows, with the clocks
  -- of their turns
  pub covers : IsCovered (record log.header { version = 2 }) rows (text_of (upgraded rows log))

-- a run of actors that wrote a log of version 1, whose header was taken and whose threads did not
-- stray: what its sink took, with the clocks of the run's own rows
abbrev pub RecordedRunsAreUpgraded : (D : Type 0) {A : Type 0} (state : A → ScriptState) → Type 0
RecordedRunsAreUpgraded D {A} state =
    (settings : Settings) (past : Past) (own : List Own) (seen : List (List Row)) (taken : List ℕ)
    (failures : ℕ) (told : Option Stop) (actors later : List A) (scripts : List (List Line))
    → settings.version ≡ 1
    → IsRun D (header_for settings (length actors)) past own seen taken failures told
    → told ≢ Some stop.Strayed
    → ArePlayedFrom state (is_some told) 0 past.rows past.asked actors later
    → map start_of scripts ≡ map state actors
    → IsUpgradedBy past.rows taken scripts

-- the faults by which no run comes to all its records
abbrev pub IsRefusal : ReplayFault → Type 0
IsRefusal (replay_fault.Log fault) = Unit {0}
IsRefusal replay_fault.Threads = Unit {0}
IsRefusal (replay_fault.Diverged thread number seen) = Unit {0}
IsRefusal fault = ⊥

-- what a replay of a log of version 1 refuses so, the upgrade refuses so
abbrev pub RefusedAlike : Type 0
RefusedAlike =
    (text : List ℕ) (scripts : List (List Line)) (fault : ReplayFault)
    → is_other_version 1 text ≡ false → IsRefusal fault → Replays text scripts (Err fault)
    → IsNoUpgrade text scripts fault
