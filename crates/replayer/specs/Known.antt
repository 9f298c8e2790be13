-- Internal: no contract of the headline or of a command stands on it.
-- The laws of other crates that the laws of this one rest on.
use Rattle.lock_model.specs.Runs.{Keeps}
use Rattle.machine.specs.Records.{as_logged}
use Rattle.std.specs.Prelude.{◌≡◌, ◌==◌, ℕ, List, not}
use Rattle.call_machine.specs.Covered.{HasSpelling, NoneDiverges, RecordsCame}
use Rattle.machine.specs.RecordLaws.{RecordLaws}
use Rattle.call_machine.specs.Plain.{OnePlainRun}
use Rattle.call_machine.specs.RunLogs.{PlainIsMade, RunHasSpelling, RunRecordsCame}
use Rattle.call_machine.specs.RunLogs.{RunsOfBothVersions}
use Rattle.input_log.specs.Faults.{Fault, HasFault, is_other_version}
use Rattle.input_log.specs.Fronts.{IsFront}
use Rattle.input_log.specs.Grammar.{Spells}
use Rattle.input_log.specs.Writing.{IsSound, Writing, log_of}
use Rattle.input_log.specs.declared.log.LogText.{LogText}
use Rattle.lock_model.specs.Came.{CameIsRows, FitsAlike, OutsideStays, OverUnderCame, PlainArises}
use Rattle.lock_model.specs.Came.{PlainCount, PlainLeads, RepliesAreRows, SameUnderCame}
use Rattle.lock_model.specs.Events.{EventLaws}
use Rattle.lock_model.specs.Laws.{ArisesByRun, DatedOfArisen, EndedOrTurn, HolderHasTurn}
use Rattle.lock_model.specs.Laws.{PrefixLawOfCame}
use Rattle.lock_model.specs.Laws.{PrefixLawOfFollowed, RunFollows, SomeEnd, UniqueEnd}
use Rattle.thread_scripts.specs.ScriptPrograms.{ScriptsEnd}

-- what is known of plain runs, of their logs and of the texts of logs
pub record Known : Type 0 where
  -- plain runs, and those under what a log has of the outcomes that came
  pub keeps : (version : ℕ) → Keeps (as_logged version)
  pub alike : FitsAlike
  pub same : SameUnderCame
  pub over : OverUnderCame
  pub leads : PlainLeads
  pub arises : PlainArises
  pub count : PlainCount
  pub stays : OutsideStays
  pub rows : CameIsRows
  pub follows : RunFollows
  pub turn : EndedOrTurn
  pub prefix : PrefixLawOfCame
  pub ends : UniqueEnd
  -- their logs
  pub came : RecordsCame
  pub spelled : HasSpelling
  pub straight : NoneDiverges
  -- what a text spells
  pub one_value : (text : List ℕ) (a b : LogText) → Spells text a → Spells text b → a ≡ b
  pub one_fault : (text : List ℕ) (a b : Fault) → HasFault text a → HasFault text b → a ≡ b
  pub no_fault : (text : List ℕ) (log : LogText) (fault : Fault) → Spells text log
      → HasFault text fault → ⊥
  pub version : (text : List ℕ) (log : LogText) (version : ℕ) → IsFront text log
      → is_other_version version text ≡ not (log.header.version == version)

-- and those that runs in threads rest on besides
pub record KnownOfThreads : Type 0 where
  pub plain : Known
  pub followed : PrefixLawOfFollowed
  pub replies : RepliesAreRows
  pub dated : DatedOfArisen
  pub some_end : SomeEnd
  pub scripts_end : ScriptsEnd
  pub holder : HolderHasTurn
  -- the records of a log
  pub records : RecordLaws
  -- what a sink took
  pub written : (w : Writing) → IsSound w → IsFront w.taken (log_of w)
  -- any run of scripts, and its log in both versions
  pub events : EventLaws
  pub arises : ArisesByRun
  pub run_came : RunRecordsCame
  pub run_spelled : RunHasSpelling
  pub versions : RunsOfBothVersions
  pub made : PlainIsMade
  pub one_plain : OnePlainRun
