-- Internal: no contract of the headline or of a command stands on it.
-- What was decided of the call whose thread holds the table: nobody else changes the table until
-- that is free.
use Rattle.std.specs.Prelude.{◌≡◌, ◌≢◌, ℕ, ◌<◌, Bool, true, false, List, length, slice_get}
use Rattle.std.specs.Prelude.{slice_index_or, Option, Some, None}
use Rattle.std.specs.Option.{option_map}
use Rattle.posix_terms.specs.Calls.{Call}
use Rattle.posix_terms.specs.declared.transcript.HistoryRow.{HistoryRow}
use Rattle.det_mutex.specs.declared.lock.DetLock.{DetLock}
use Rattle.posix_terms.specs.declared.carried.Moved.{Moved}
use Rattle.call_turns.specs.Store.{Stored, locking_at}
use Rattle.call_turns.specs.declared.patience.Locking.{Locking}
use Rattle.lock_machine.specs.declared.thread.Phase.{Phase}
use Rattle.lock_machine.specs.declared.thread.Phase.TheVariants as phase
use Rattle.lock_machine.specs.declared.thread.Thread.{Thread}

-- ## The call for which a thread holds the table

-- the call of a row of the history
abbrev pub call_at : List HistoryRow → ℕ → Option Call
call_at rows n = option_map (λ (r : HistoryRow). r.call) (slice_get rows n)

-- with what it moved before
abbrev pub kept_call : Bool → Option Call → Moved → Option (Call × Moved)
kept_call true call so_far = option_map (λ c. (c, so_far)) call
kept_call false call so_far = None

-- one that wants an object, or is outside and keeps the table
abbrev pub wanted_call : Phase → List HistoryRow → Option (Call × Moved)
wanted_call (phase.WantsObject call carried clock object) rows = Some (call, carried.moved)
wanted_call (phase.ToOutside o) rows = kept_call o.keeps_table (call_at rows o.row) o.carried.moved
wanted_call (phase.Outside o) rows = kept_call o.keeps_table (call_at rows o.row) o.carried.moved
wanted_call (phase.Recorded o) rows = kept_call o.keeps_table (call_at rows o.row) o.carried.moved
wanted_call p rows = None

-- a call that it has now it had before
abbrev pub BringsNoCall : Phase → List HistoryRow → Phase → List HistoryRow → Type 0
BringsNoCall p rows q later =
    (call : Call × Moved) → wanted_call q later ≡ Some call → wanted_call p rows ≡ Some call

-- each row has the call that it had
abbrev pub KeepsCalls : List HistoryRow → List HistoryRow → Type 0
KeepsCalls rows later = (n : ℕ) → call_at later n ≡ call_at rows n

-- ## What was decided of it

-- this is there, and is what the table decides of the call
abbrev pub IsWanted : Stored → Call × Moved → Option Locking → Type 0
IsWanted h (call, so_far) wanted =
    option_map (λ x. Some x) wanted ≡ Some (locking_at h call so_far)

-- of the call that a thread holds the table for
abbrev pub HasDecided : Phase → List HistoryRow → Stored → Option Locking → Type 0
HasDecided p rows h wanted =
    (call : Call × Moved) → wanted_call p rows ≡ Some call → IsWanted h call wanted

-- of that of thread k, where it holds the table
abbrev pub HasDecidedAt : ℕ → Phase → DetLock → List HistoryRow → Stored → Option Locking → Type 0
HasDecidedAt k p lock rows h wanted = lock.holder ≡ Some k → HasDecided p rows h wanted

-- this was decided of the call of whichever thread holds the table
abbrev pub AllHaveDecided : List Thread → DetLock → List HistoryRow → Stored → Option Locking
    → Type 0
AllHaveDecided threads lock rows h wanted = (k : ℕ) (d : Thread) → k < length threads →
    (let t : Thread = slice_index_or threads k d in HasDecidedAt k t.phase lock rows h wanted)

-- ## What the events of other threads leave

-- thread k, which holds the table, held it before, and finds the calls of the rows, what was
-- decided and the store as they were
abbrev pub LeavesWanted : ℕ → DetLock → List HistoryRow → Stored → Option Locking
    → List HistoryRow → Stored → Option Locking → Type 0
LeavesWanted k lock rows h wanted later new now =
    (lock.holder ≡ Some k) × KeepsCalls rows later × (new ≡ h) × (now ≡ wanted)

-- each other thread than i
abbrev pub KeepsWanted : ℕ → DetLock → List HistoryRow → Stored → Option Locking
    → DetLock → List HistoryRow → Stored → Option Locking → Type 0
KeepsWanted i lock rows h wanted left later new now =
    (k : ℕ) → k ≢ i → left.holder ≡ Some k → LeavesWanted k lock rows h wanted later new now
