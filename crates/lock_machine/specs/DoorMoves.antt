-- Internal: no contract of the headline or of a command stands on it.
-- What the events of a thread do to the descriptions that lead outside.
use Rattle.std.specs.Prelude.{◌≡◌, ℕ, Bool, true, false, List, Option, Some, None, Result, Ok}
use Rattle.std.specs.Prelude.{slice_get}
use Rattle.descriptor_table.specs.Doors.{AddsOne}
use Rattle.call_turns.specs.Doors.{GoesBy, KeepsDoors, is_ok}
use Rattle.call_turns.specs.Store.{Stored, number_locked}
use Rattle.posix_terms.specs.Calls.{Call}
use Rattle.posix_terms.specs.declared.outcome.Outcome.{Outcome}
use Rattle.posix_terms.specs.declared.reply.Answer as posix
use Rattle.posix_terms.specs.declared.transcript.HistoryRow.{HistoryRow}
use Rattle.sequential_object.specs.Step.{Carried}
use Rattle.lock_machine.specs.Whole.{Whole}
use Rattle.lock_machine.specs.declared.refused.LockRefused.{LockRefused}
use Rattle.lock_machine.specs.declared.thread.Outing.{Outing}
use Rattle.lock_machine.specs.declared.thread.Phase.{Phase}
use Rattle.lock_machine.specs.declared.thread.Phase.TheVariants as phase

-- no door is new by an attempt, after which the thread is in this phase, and neither outside nor
-- back; where it goes outside it has its door
abbrev pub StartsDoors : Phase → Stored → Stored → Type 0
StartsDoors (phase.ToOutside o) old new =
    KeepsDoors old new × ((n : ℕ) × GoesBy n o.keeps_table o.errand old new)
StartsDoors (phase.Outside o) old new = ⊥
StartsDoors (phase.Recorded o) old new = ⊥
StartsDoors p old new = KeepsDoors old new

-- with the table alone it does not go there
abbrev pub PlansDoors : Phase → Stored → Stored → Type 0
PlansDoors (phase.ToOutside o) old new = ⊥
PlansDoors (phase.Outside o) old new = ⊥
PlansDoors (phase.Recorded o) old new = ⊥
PlansDoors p old new = KeepsDoors old new

-- a turn of a call that went outside ended by this outcome: where it kept the table, the number
-- that it locked may be that of a new door, after a success
abbrev pub EndsDoors : Bool → Call → Carried → Outcome → Stored → Stored → Type 0
EndsDoors true c carried x old new =
    (n : ℕ) × ((number_locked old c carried ≡ Some n)
    × (AddsOne old.table.descriptions n new.table.descriptions × (is_ok x ≡ false → new ≡ old)))
EndsDoors false c carried x old new = new ≡ old

-- so ended the call of this outing, whose row has its outcome; or nothing changed
abbrev pub AnswersDoors : Option posix.Answer → Outing → List HistoryRow → Stored → Stored → Type 0
AnswersDoors (Some told) o rows old new =
    (q : HistoryRow) × (x : Outcome) × ((slice_get rows o.row ≡ Some q) × ((q.outcome ≡ Some x)
    × EndsDoors o.keeps_table q.call o.carried x old new))
AnswersDoors None o rows old new = new ≡ old

-- by the phase before, and by what is returned
abbrev pub AnswersAt : Phase → Result posix.Answer LockRefused → Whole → Whole → Type 0
AnswersAt (phase.Recorded o) (Ok told) old new =
    AnswersDoors (Some told) o old.rows old.table new.table
AnswersAt p r old new = new.table ≡ old.table
