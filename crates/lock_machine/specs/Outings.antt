-- Internal: no contract of the headline or of a command stands on it.
-- What the events of a call make of it that goes outside.
use Rattle.std.specs.Prelude.{◌≡◌, ℕ, ◌+◌, ◌^◌, List, Option, Some, None, Bool, true, false, not}
use Rattle.std.specs.Prelude.{◌&&◌, ◌||◌, nat_le, nat_lt, slice_get, slice_set}
use Rattle.descriptor_table.specs.declared.plan.Errand.{Errand}
use Rattle.det_mutex.specs.Attempt.{freed}
use Rattle.det_mutex.specs.declared.lock.DetLock.{DetLock}
use Rattle.lock_model.specs.Machine.{is_number}
use Rattle.call_turns.specs.Patience.{EndsOutside}
use Rattle.call_turns.specs.Store.{Opens, Stored}
use Rattle.sequential_object.specs.declared.turn_end.TurnEnd.{TurnEnd}
use Rattle.posix_terms.specs.Outcomes.{fits, is_at, suits}
use Rattle.posix_terms.specs.Calls.{Call}
use Rattle.posix_terms.specs.declared.limits.TheConstants.Limits as limit
use Rattle.posix_terms.specs.declared.outcome.Given.{Given}
use Rattle.posix_terms.specs.declared.outcome.Outcome.{Outcome}
use Rattle.posix_terms.specs.declared.reply.Answer as posix
use Rattle.posix_terms.specs.declared.transcript.HistoryRow.{HistoryRow}
use Rattle.posix_terms.specs.declared.transcript.Turn.{Turn}
use Rattle.lock_machine.specs.Held.{phase_behind, told_as}
use Rattle.lock_machine.specs.Threads.{Thread}
use Rattle.lock_machine.specs.declared.outside.Progress.{Progress}
use Rattle.lock_machine.specs.declared.outside.Progress.TheVariants as progress
use Rattle.lock_machine.specs.declared.thread.Outing.{Outing}
use Rattle.lock_machine.specs.declared.thread.Phase.TheVariants as phase

-- ## `begin_outside`

-- by whether it can: the call goes outside for this cost, or nothing changes
abbrev pub BeginsIf : Bool → ℕ → Outing → Bool → Thread → Thread → Type 0
BeginsIf true cost o moved old new =
    (moved ≡ true) × (new ≡ record old { phase = phase.Outside o; clock = old.clock + cost })
BeginsIf false cost o moved old new = (moved ≡ false) × (new ≡ old)

-- a call goes outside, where its thread can have one more outcome and its clock has room
abbrev pub Begins : ℕ → Outing → Bool → Thread → Thread → Type 0
Begins cost o moved old new =
    BeginsIf (nat_lt old.came limit.OUTCOMES
    && nat_le (old.clock + cost) (2 ^ 62)) cost o moved old new

-- ## `record`

-- a thread, with the rows
pub record RecordedParts : Type 0 where
  pub thread : Thread
  pub rows : List HistoryRow

-- a thread and the rows, taken together
abbrev pub recorded_parts : Thread → List HistoryRow → RecordedParts
recorded_parts thread rows = record { thread = thread; rows = rows }

-- what was given answers what was asked at this turn
abbrev pub answers_errand : Errand → Turn → Given → Bool
answers_errand e turn g =
    suits e.kind e.asked g && (is_at turn g.clock && nat_le e.asked 65535)

-- what comes of an outcome, by whether it answers and whether its thread can have one more
abbrev pub progress_by : Bool → Bool → Progress
progress_by true true = progress.Moves
progress_by true false = progress.Stays
progress_by false room = progress.Diverges

-- by the call's row
abbrev pub progress_at : Option HistoryRow → Outing → Given → Bool → Progress
progress_at (Some q) o g room = progress_by (answers_errand o.errand q.turn g) room
progress_at None o g room = progress.Stays

-- the thread can count one outcome more
abbrev pub can_count : Thread → Bool
can_count t = nat_lt (t.came + 1) (2 ^ 32)

-- this outcome has come: it is in the call's row, and the thread has counted it
abbrev pub row_recorded : Outing → Given → HistoryRow → RecordedParts → RecordedParts
row_recorded o g q p =
    record {
      thread = record p.thread { phase = phase.Recorded o; came = p.thread.came + 1 };
      rows = slice_set p.rows o.row (record q { outcome = Some g.outcome });
    }

-- by whether it answers and whether its thread can have one more: it goes into the row, or nothing
-- changes
abbrev pub RecordsIf : Bool → Bool → Progress → Outing → Given → HistoryRow
    → RecordedParts → RecordedParts → Type 0
RecordsIf true true made o g q old new = (made ≡ progress.Moves) × (new ≡ row_recorded o g q old)
RecordsIf answers room made o g q old new = (made ≡ progress_by answers room) × (new ≡ old)

-- by the call's row: the outcome comes where it answers at the turn of that row and the thread
-- can count one more; where the row is not there, nothing changes
abbrev pub RecordsRow : Option HistoryRow → Progress → Outing → Given
    → RecordedParts → RecordedParts → Type 0
RecordsRow (Some q) made o g old new =
    RecordsIf (answers_errand o.errand q.turn g) (can_count old.thread) made o g q old new
RecordsRow None made o g old new = (made ≡ progress.Stays) × (new ≡ old)

-- this outcome comes, where it answers
abbrev pub Records : Progress → Outing → Given → RecordedParts → RecordedParts → Type 0
Records made o g old new = RecordsRow (slice_get old.rows o.row) made o g old new

-- ## `answer`

-- a thread, with the lock of an object, that of the table, the table with the bodies, and the rows
pub record OutsideParts : Type 0 where
  pub thread : Thread
  pub object : DetLock
  pub lock : DetLock
  pub table : Stored
  pub rows : List HistoryRow

-- a thread with the locks of its object and of the table, the table and the rows, taken together
abbrev pub outside_parts : Thread → DetLock → DetLock → Stored → List HistoryRow → OutsideParts
outside_parts thread object lock table rows = record {
  thread = thread;
  object = object;
  lock = lock;
  table = table;
  rows = rows;
}

-- the turn ended so. Where it kept the table its change is made now
abbrev pub EndsTurn : Bool → ℕ → Outing → Call → Outcome → TurnEnd → Stored → Stored → Type 0
EndsTurn true patience o c x e old new = Opens patience o.carried old c x e new
EndsTurn false patience o c x e old new =
    (fits o.errand.kind o.errand.asked x ≡ true → EndsOutside patience o.carried o.errand x e)
    × (new ≡ old)

-- the lock of the table after an answer: freed at this clock where the call kept it
abbrev pub table_freed : Bool → ℕ → DetLock → DetLock
table_freed true clock lock = freed clock
table_freed false clock lock = lock

-- what an answer adds to the clock: 1 for each lock that it frees
abbrev pub answer_cost : Bool → ℕ
answer_cost true = 2
answer_cost false = 1

-- the thread goes on, and the row has its answer
abbrev pub went_on : TurnEnd → Thread → Thread
went_on e t = record t { phase = phase_behind e }

-- the call is answered: its row has the answer, its locks are free, and its thread goes on
abbrev pub row_concluded : Outing → HistoryRow → TurnEnd → Stored → OutsideParts → OutsideParts
row_concluded o q e table p =
    record {
      thread = went_on e (record p.thread { clock = p.thread.clock + answer_cost o.keeps_table });
      object = freed p.thread.clock;
      lock = table_freed o.keeps_table (p.thread.clock + 1) p.lock;
      table = table;
      rows = slice_set p.rows o.row (record q { answer = Some (told_as e) });
    }

-- no answer is given, and nothing changes
abbrev pub StaysSo : Option posix.Answer → OutsideParts → OutsideParts → Type 0
StaysSo told old new = (told ≡ None) × (new ≡ old)

-- by whether the clock has room: the turn ends with this outcome and is answered, or nothing
-- changes
abbrev pub ConcludesIf : Bool → ℕ → Option posix.Answer → Outing → HistoryRow → Outcome
    → OutsideParts → OutsideParts → Type 0
ConcludesIf true patience told o q x old new =
    (e : TurnEnd)
    × ((told ≡ Some (told_as e))
    × EndsTurn o.keeps_table patience o q.call x e old.table new.table
    × (new ≡ row_concluded o q e new.table old))
ConcludesIf false patience told o q x old new = StaysSo told old new

-- by the outcome in the row: the call is answered with it, or nothing changes where none came
abbrev pub ConcludesWith : Option Outcome → HistoryRow → ℕ → Option posix.Answer → Outing
    → OutsideParts → OutsideParts → Type 0
ConcludesWith (Some x) q patience told o old new =
    ConcludesIf
    (nat_le (old.thread.clock + answer_cost o.keeps_table) (2 ^ 62)) patience told o q x old new
ConcludesWith None q patience told o old new = StaysSo told old new

-- by the call's row: the call is answered in it, or nothing changes where it is not there
abbrev pub ConcludesRow : Option HistoryRow → ℕ → Option posix.Answer → Outing → OutsideParts
    → OutsideParts → Type 0
ConcludesRow (Some q) patience told o old new = ConcludesWith q.outcome q patience told o old new
ConcludesRow None patience told o old new = StaysSo told old new

-- by whether the thread holds the locks of its call: this is answered, or nothing changes
abbrev pub ConcludesHeld : Bool → ℕ → Option posix.Answer → Outing → OutsideParts → OutsideParts
    → Type 0
ConcludesHeld true patience told o old new =
    ConcludesRow (slice_get old.rows o.row) patience told o old new
ConcludesHeld false patience told o old new = StaysSo told old new

-- the answer is given, where there is one
abbrev pub AnswersOutside : ℕ → Option posix.Answer → ℕ → Outing → OutsideParts → OutsideParts
    → Type 0
AnswersOutside patience told i o old new =
    ConcludesHeld
    (is_number old.object.holder i
    && (not o.keeps_table || is_number old.lock.holder i)) patience told o old new
