-- Believed: a contract of the headline stands on it.
-- What a replay by threads gives.
use Rattle.std.specs.Prelude.{◌≡◌, ◌≢◌, ◌⊎◌, ℕ, zero, suc, List, [], ◌∷◌, ◌++◌, length, map, Option}
use Rattle.std.specs.Prelude.{Some, None, is_some, Result, Ok, Err}
use Rattle.call_machine.specs.History.{Past, transcripts_of}
use Rattle.call_machine.specs.Plain.{IsPlainRun}
use Rattle.call_machine.specs.Setup.{first_state, setup_of}
use Rattle.call_machine.specs.declared.plain.Plain.{Plain}
use Rattle.host_doors.specs.LogList.{GivesNext, LogList}
use Rattle.host_doors.specs.declared.script.ScriptDoor.{ScriptDoor}
use Rattle.input_log.specs.Fronts.{IsFront}
use Rattle.input_log.specs.Outcomes.{outcomes_of}
use Rattle.input_log.specs.declared.log.LogText.{LogText}
use Rattle.input_log.specs.declared.log.Record.{Record}
use Rattle.lock_model.specs.Rows.{shown}
use Rattle.lock_model.specs.Schedule.{EndsIn}
use Rattle.lock_model.specs.State.{State}
use Rattle.machine.specs.Starting.{header_for}
use Rattle.machine.specs.declared.stop.Stop.{Stop}
use Rattle.machine.specs.declared.stop.Stop.TheVariants as stop
use Rattle.posix_terms.specs.declared.transcript.Row.{Row}
use Rattle.posix_terms.specs.declared.transcript.Settings.{Settings}
use Rattle.recorder.specs.Each.{AreLedFrom, ArePlayedFrom, AreTrue}
use Rattle.recorder.specs.Recorded.{AreAnswered, AreBeginnings, AreEnded, AreTold, IsRecorded}
use Rattle.recorder.specs.Recorded.{IsRun}
use Rattle.thread_scripts.specs.Meaning.{start_of}
use Rattle.thread_scripts.specs.declared.actor.ScriptState.{ScriptState}
use Rattle.thread_scripts.specs.declared.line.Line.{Line}
use Rattle.worker_notes.specs.Agrees.{Agree}
use Rattle.worker_notes.specs.Leads.{Giving}
use Rattle.worker_notes.specs.declared.own.Own.{Own}
use Rattle.replayer.specs.Outcomes.{first_unused, settings_of}
use Rattle.replayer.specs.Replay.{Replays, inputs_of}
use Rattle.replayer.specs.declared.fault.ReplayFault.{ReplayFault}
use Rattle.replayer.specs.declared.fault.ReplayFault.TheVariants as replay_fault
use Rattle.replayer.specs.declared.replayed.Replayed.{Replayed}

-- ## The run

-- what the log has for a thread, of which nothing was given
abbrev pub doors_of : ℕ → List Record → LogList
doors_of thread records = record {
  list = outcomes_of thread records;
  counts = record { given = 0; failures = 0 };
}

-- that of the first threads, so many
abbrev pub doors_by : ℕ → List Record → List LogList
doors_by zero records = []
doors_by (suc n) records = doors_by n records ++ doors_of n records ∷ []

-- what the log has of a number, where it answers the request
abbrev pub gives_logged : Giving LogList
gives_logged old number request outcome new = GivesNext number request old new (Ok outcome)

-- the sink is memory: where it had no room there was no memory
abbrev pub cause_told : Stop → Stop
cause_told stop.Sink = stop.Memory
cause_told cause = cause

-- where nothing stopped the run, a record that was not used is a divergence
abbrev pub stop_told : Option Stop → Option (ℕ × ℕ) → Option Stop
stop_told (Some cause) unused = Some (cause_told cause)
stop_told None (Some (thread, number)) = Some (stop.Diverged thread number)
stop_told None None = None

-- what stands at the end of a run: its history, the notes of its workers, what
-- each thread saw, and where the actors and what they reach stand
pub record AtEnd (A : Type 0) : Type 0 where
  pub history : Past
  pub own : List Own
  pub transcripts : List (List Row)
  pub actors : List A
  pub doors : List LogList

-- the run of these actors by this log stopped so: what a recorded run
-- promises, where what comes from outside is what the log has
pub record IsRunBy {A : Type 0} (state : A → ScriptState) (log : LogText) (actors : List A)
    (e : AtEnd A) (taken : List ℕ) (failures : ℕ) (stopped : Option Stop) : Type 0 where
  pub run : IsRecorded ScriptDoor (settings_of log.header) (length actors) e.history e.own
      e.transcripts taken failures stopped
  pub agrees : (stopped ≡ Some stop.Strayed) ⊎ Agree e.history.rows e.history.asked e.own
  pub transcripts : AreTold (length actors) e.history.rows stopped e.transcripts
  pub ended : stopped ≡ None → AreEnded e.own
  pub answered : stopped ≡ None → AreAnswered e.history.rows
  pub fails : stopped ≡ Some stop.Sink → failures ≡ 1
  pub steps : (stopped ≡ Some stop.Strayed)
      ⊎ ArePlayedFrom state (is_some stopped) 0 e.history.rows e.history.asked actors e.actors
  pub calls : (stopped ≡ Some stop.Strayed)
      ⊎ AreLedFrom gives_logged 0 e.history.rows e.history.asked
      (doors_by (length actors) log.records) e.doors
  pub told : AreTrue gives_logged state actors (doors_by (length actors) log.records) e.own e.actors
      e.doors

-- and this is said of its stop
pub record EndsBy {A : Type 0} (state : A → ScriptState) (log : LogText) (actors : List A)
    (e : AtEnd A) (taken : List ℕ) (failures : ℕ) (told : Option Stop) : Type 0 where
  pub stopped : Option Stop
  pub run : IsRunBy state log actors e taken failures stopped
  pub told_is : told ≡ stop_told stopped
      (first_unused log.header.threads log.records e.history.rows)

-- ## What the replay of the same log gives

-- the plain run by the log's outcomes, in which a thread whose next outcome
-- does not answer counts as one that lacks it, ends in this state
abbrev pub PlainEnd : LogText → List (List Line) → State → Type 0
PlainEnd log scripts last = EndsIn (setup_of (inputs_of log scripts))
    (first_state (inputs_of log scripts)) last

-- what each thread sees there
abbrev pub seen_in : State → List (List Row)
seen_in last = transcripts_of (length last.threads) (map shown last.rows)

-- the plain run by the log comes to an outcome that does not answer
abbrev pub Diverges : LogText → List (List Line) → ℕ → ℕ → Type 0
Diverges log scripts thread number = (plain : Plain) × IsPlainRun (inputs_of log scripts) plain
    × (plain.stop ≡ Some (stop.Diverged thread number))

-- each thread saw a beginning of what the replay returns, which
-- diverges nowhere. A replay that is out of memory says nothing
abbrev pub BeginsReplay : List (List Row) → Result Replayed ReplayFault → Type 0
BeginsReplay seen (Ok replayed) = AreBeginnings seen replayed.transcripts
BeginsReplay seen (Err replay_fault.Memory) = Unit {0}
BeginsReplay seen (Err (replay_fault.EndOfLog thread told)) = AreBeginnings seen told
BeginsReplay seen (Err (replay_fault.ClockFull told)) = AreBeginnings seen told
BeginsReplay seen result = ⊥

-- so it is of a replay that diverges too, but where that ends at an outcome that does not answer
abbrev pub IsBeginningOf : LogText → List (List Line) → List (List Row)
    → Result Replayed ReplayFault → Type 0
IsBeginningOf log scripts seen (Err (replay_fault.Diverged thread number told)) =
    AreBeginnings seen told ⊎ Diverges log scripts thread number
IsBeginningOf log scripts seen result = BeginsReplay seen result

-- a replay that came to its end, with what each thread saw and this history
abbrev pub came_to_its_end : List (List Row) → Past → Result Replayed ReplayFault
came_to_its_end transcripts past =
    Ok (record {
      transcripts = transcripts;
      history = record { rows = past.rows; asked = past.asked };
    })

-- what so many threads saw in a run by this log is a beginning of what they see in
-- its replay with these scripts; and where nothing stopped the run, the
-- replay comes to its end, with exactly that
pub record AgreesWithReplay (text : List ℕ) (log : LogText) (scripts : List (List Line))
    (past : Past) (told : Option Stop) : Type 0 where
  pub last : State
  pub ends : PlainEnd log scripts last
  pub begins : AreBeginnings (transcripts_of (length scripts) past.rows) (seen_in last)
  pub replay : (result : Result Replayed ReplayFault) → Replays text scripts result
      → IsBeginningOf log scripts (transcripts_of (length scripts) past.rows) result
  pub whole : told ≡ None → Replays text scripts
      (came_to_its_end (transcripts_of (length scripts) past.rows) past)

-- ## The whole

-- a log with as many threads stands at the front of the text, the actors ran
-- by it, and what they saw agrees with its replay, whatever
-- scripts the actors' meanings begin
pub record IsReplayedBy {A : Type 0} (state : A → ScriptState) (text : List ℕ) (actors : List A)
    (e : AtEnd A) (taken : List ℕ) (failures : ℕ) (told : Option Stop) : Type 0 where
  pub log : LogText
  pub front : IsFront text log
  pub threads : log.header.threads ≡ length actors
  pub run : EndsBy state log actors e taken failures told
  pub replay : told ≢ Some stop.Strayed → (scripts : List (List Line))
      → map start_of scripts ≡ map state actors → AgreesWithReplay text log scripts e.history told

-- whatever stopped it, a run by the log agrees with the log's replay, unless its threads strayed
abbrev pub RunsAgreeWithReplays : {A : Type 0} (state : A → ScriptState) → Type 0
RunsAgreeWithReplays {A} state =
    (text : List ℕ) (log : LogText) (actors : List A) (e : AtEnd A) (taken : List ℕ) (failures : ℕ)
    (told : Option Stop) (scripts : List (List Line))
    → IsFront text log → log.header.threads ≡ length actors
    → EndsBy state log actors e taken failures told → told ≢ Some stop.Strayed
    → map start_of scripts ≡ map state actors
    → AgreesWithReplay text log scripts e.history told

-- ## The log that a recorded run wrote

-- what a replay of it gives with the scripts that the actors mean: all that each
-- thread saw, where nothing stopped the run, and else no less than
-- each saw; it diverges nowhere
abbrev pub IsRetold : List (List Row) → Past → Option Stop → Result Replayed ReplayFault → Type 0
IsRetold seen past told (Err replay_fault.Memory) = Unit {0}
IsRetold seen past None result = result ≡ came_to_its_end seen past
IsRetold seen past (Some stopped) result = BeginsReplay seen result

-- a run of actors, whose log's header was taken and whose threads did
-- not stray, and a replay of the bytes that its sink took
abbrev pub RecordedRunsAreReplayed : (D : Type 0) {A : Type 0} (state : A → ScriptState) → Type 0
RecordedRunsAreReplayed D {A} state =
    (settings : Settings) (past : Past) (own : List Own) (seen : List (List Row)) (taken : List ℕ)
    (failures : ℕ) (told : Option Stop) (actors later : List A) (scripts : List (List Line))
    (result : Result Replayed ReplayFault)
    → IsRun D (header_for settings (length actors)) past own seen taken failures told
    → told ≢ Some stop.Strayed
    → ArePlayedFrom state (is_some told) 0 past.rows past.asked actors later
    → map start_of scripts ≡ map state actors
    → Replays taken scripts result
    → IsRetold (transcripts_of (length actors) past.rows) past told result
