-- Believed: a contract of the headline stands on it.
-- The room for the rows of the calls that wait for a lock.
use Rattle.std.specs.Prelude.{ℕ, ◌+◌, ◌≤◌, List, Bool, true, false}
use Rattle.std.specs.Global.{Vec}
use Rattle.std.specs.List.{sum_by}
use Rattle.std.specs.Vec.{vec_capacity, vec_len}
use Rattle.posix_terms.specs.declared.transcript.HistoryRow.{HistoryRow}
use Rattle.posix_terms.specs.declared.step.Step.{Step}
use Rattle.posix_terms.specs.declared.step.Step.TheVariants as step
use Rattle.lock_machine.specs.declared.thread.Phase.{Phase}
use Rattle.lock_machine.specs.declared.thread.Phase.TheVariants as phase
use Rattle.lock_machine.specs.declared.thread.Thread.{Thread}

-- how many rows a thread gets before its call has its lock
abbrev pub rows_due : Phase → ℕ
rows_due (phase.WantsTable call carried) = 1
rows_due (phase.WantsObject call carried clock object) = 1
rows_due p = 0

-- how many threads wait for a lock
abbrev pub waiting : List Thread → ℕ
waiting threads = sum_by (λ (t : Thread). rows_due t.phase) threads

-- this step is a call
abbrev pub is_call : Step → Bool
is_call (step.Call call) = true
is_call x = false

-- there is room for so many rows more
abbrev pub HasRoom : ℕ → Vec HistoryRow → Type 0
HasRoom due rows = due + vec_len rows ≤ vec_capacity rows

-- where so many rows were due and now so many are, the room for all others that are due is still
-- there
abbrev pub KeepsRoom : ℕ → Vec HistoryRow → ℕ → Vec HistoryRow → Type 0
KeepsRoom due rows left later =
    left + vec_len later + vec_capacity rows ≤ due + vec_len rows + vec_capacity later
