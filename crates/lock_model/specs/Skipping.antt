-- Internal: no contract of the headline or of a command stands on it.
-- Attempts that fail, and where so many of them lead.
use Rattle.std.specs.Prelude.{◌≡◌, ℕ, zero, suc, ◌+◌, ◌≤◌, length, max, true, false}
use Rattle.std.specs.Prelude.{if◌then◌else◌, nat_lt}
use Rattle.det_mutex.specs.Attempt.{takes}
use Rattle.det_mutex.specs.declared.lock.DetLock.{DetLock}
use Rattle.lock_model.specs.Machine.{Setup, attempt, can_attempt, failed, wants}
use Rattle.lock_model.specs.State.{Phase, State, Thread, object_of, thread_of}
use Rattle.lock_model.specs.State.Phase.{Ended, WantsObject, WantsTable}
use Rattle.logical_clocks.specs.TurnOrder.{is_before}
use Rattle.posix_terms.specs.declared.transcript.Turn.{Turn}

-- thread i, which has the turn, makes its attempt, and fails
pub record Fails (setup : Setup) (s : State) (i : ℕ) : Type 0 where
  pub can : can_attempt setup s i ≡ true
  pub fails : attempt setup i s ≡ failed s i (thread_of s i)

-- so many attempts that fail, each by the thread that has the turn, lead from s to last
abbrev pub FailsTo : Setup → ℕ → State → State → Type 0
FailsTo setup zero s last = s ≡ last
FailsTo setup (suc n) s last =
    (i : ℕ) × Fails setup s i × FailsTo setup n (attempt setup i s) last

-- the turn of this thread at this clock
abbrev pub turn_at : ℕ → ℕ → Turn
turn_at thread clock = record { clock = clock; thread = thread }

-- from this clock of thread j on, the lock opens to it at no turn before this one
abbrev pub StaysShut : DetLock → Turn → ℕ → ℕ → Type 0
StaysShut l turn j clock =
    (c : ℕ) → clock ≤ c → is_before (turn_at j c) turn ≡ true → takes l c ≡ false

-- by its phase, no turn of thread j before this one is for more than an attempt that fails
abbrev pub FailsUntil : State → Turn → ℕ → ℕ → Phase → Type 0
FailsUntil s turn j clock (WantsTable call carried) = StaysShut s.table turn j clock
FailsUntil s turn j clock (WantsObject call carried at n way) =
    StaysShut (object_of s n) turn j clock
FailsUntil s turn j clock Ended = Unit {0}
FailsUntil s turn j clock phase = is_before (turn_at j clock) turn ≡ false

-- no turn of any thread before this one is for more than an attempt that fails
abbrev pub AllFailUntil : Turn → State → Type 0
AllFailUntil turn s = (j : ℕ) → FailsUntil s turn j (thread_of s j).clock (thread_of s j).phase

-- the least clock with which thread j does not come before this turn
abbrev pub first_from : Turn → ℕ → ℕ
first_from turn j = if nat_lt j turn.thread then turn.clock + 1 else turn.clock

-- a thread that wants a lock, once it does not come before this turn
abbrev pub passed : Turn → ℕ → Thread → Thread
passed turn j t =
    if wants t.phase then record t { clock = max t.clock (first_from turn j) } else t

-- attempts that fail lead to where no thread that wants a lock comes before this turn
pub record Skipped (setup : Setup) (turn : Turn) (s : State) : Type 0 where
  pub last : State
  pub count : ℕ
  pub fails : FailsTo setup count s last
  pub threads : (j : ℕ) → thread_of last j ≡ passed turn j (thread_of s j)
  pub length : length last.threads ≡ length s.threads
  pub others : last ≡ record s { threads = last.threads }

-- where all turns before this one fail, and none of them takes a clock past its limit
abbrev pub SkipLaw : Type 0
SkipLaw =
    (setup : Setup) (turn : Turn) (s : State)
    → ((j : ℕ) → first_from turn j ≤ setup.limits.clock_limit)
    → AllFailUntil turn s → Skipped setup turn s
