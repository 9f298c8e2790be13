-- Internal: no contract of the headline or of a command stands on it.
-- Attempts that fail, skipped by the machine.
use Rattle.std.specs.Prelude.{◌≡◌, ℕ, ◌<◌, ◌≤◌, List, length, max, get_or, true, false}
use Rattle.std.specs.Prelude.{if◌then◌else◌}
use Rattle.det_mutex.specs.Attempt.{new_lock, takes}
use Rattle.det_mutex.specs.declared.lock.DetLock.{DetLock}
use Rattle.logical_clocks.specs.ThreadClocks.{clock_at, thread_at as clock_of}
use Rattle.logical_clocks.specs.TurnOrder.{is_before}
use Rattle.logical_clocks.specs.declared.clocks.ThreadClock.{ThreadClock}
use Rattle.lock_model.specs.Skipping.{Skipped, StaysShut, first_from, turn_at}
use Rattle.lock_model.specs.State.{State}
use Rattle.posix_terms.specs.declared.limits.TheConstants.Limits as limit
use Rattle.posix_terms.specs.declared.transcript.Turn.{Turn}
use Rattle.lock_machine.specs.Births.{time_of}
use Rattle.lock_machine.specs.Conditions.{Conditions, setup_under}
use Rattle.lock_machine.specs.Refusals.{wants_lock}
use Rattle.lock_machine.specs.Shows.{Shows, StandsAt}
use Rattle.lock_machine.specs.Views.{item_at}
use Rattle.lock_machine.specs.Whole.{Whole, thread_at}
use Rattle.lock_machine.specs.declared.thread.Phase.{Phase}
use Rattle.lock_machine.specs.declared.thread.Phase.TheVariants as phase
use Rattle.lock_machine.specs.declared.thread.Thread.{Thread}

-- attempts that fail, each by the thread that has the turn, lead to a state that the machine shows
pub record Passes (terms : Conditions) (s : State) (new : Whole) : Type 0 where
  pub turn : Turn
  pub skipped : Skipped (setup_under terms) turn s
  pub shows : Shows terms new skipped.last

-- whatever state the machine stands at, attempts that fail lead from it to one that it shows then
abbrev pub SkipsFailures : Whole → Whole → Type 0
SkipsFailures old new =
    (terms : Conditions) (s : State) → StandsAt old terms s → Passes terms s new

-- at this clock, which is no earlier than the other, an attempt takes the lock
abbrev pub OpensAt : DetLock → ℕ → ℕ → Type 0
OpensAt lock clock opens = (clock ≤ opens) × (takes lock opens ≡ true)

-- a thread whose clock is the first may do more than fail at the second: it gets the lock that it
-- wants, or wants none
abbrev pub Opens : DetLock → List DetLock → ℕ → ℕ → Phase → Type 0
Opens table objects clock opens (phase.WantsTable call carried) = OpensAt table clock opens
Opens table objects clock opens (phase.WantsObject call carried at n) =
    OpensAt (get_or objects n new_lock) clock opens
Opens table objects clock opens phase.Ended = ⊥
Opens table objects clock opens p = opens ≡ clock

-- thread i may do more than fail as it stands, unless its clock is at the limit
abbrev pub NeedNotFail : Whole → ℕ → Type 0
NeedNotFail w i =
    let t = thread_at w i in
    t.clock < limit.CLOCK → Opens w.lock w.objects t.clock t.clock t.phase

-- ## By the fields of a machine

-- the phase of thread j
abbrev pub phase_of : List Thread → ℕ → Phase
phase_of threads j = let t : Thread = item_at threads j in t.phase

-- the thread of this turn may do more than fail there
pub record IsDue (table : DetLock) (objects : List DetLock) (threads : List Thread)
    (clocks : List ThreadClock) (turn : Turn) : Type 0 where
  pub inside : turn.thread < length threads
  pub opens : (let i = turn.thread in
      Opens table objects (clock_at clocks i) turn.clock (phase_of threads i))

-- by its phase, no turn of thread j before this one is for more than an attempt that fails
abbrev pub FailsUntil : DetLock → List DetLock → Turn → ℕ → ℕ → Phase → Type 0
FailsUntil table objects turn j clock (phase.WantsTable call carried) =
    StaysShut table turn j clock
FailsUntil table objects turn j clock (phase.WantsObject call carried at n) =
    StaysShut (get_or objects n new_lock) turn j clock
FailsUntil table objects turn j clock phase.Ended = Unit {0}
FailsUntil table objects turn j clock p = is_before (turn_at j clock) turn ≡ false

-- the clock of a thread in this phase, once it does not come before this turn
abbrev pub passed : Turn → ℕ → Phase → ThreadClock → ThreadClock
passed turn j p c =
    if wants_lock p then record c { clock = max c.clock (first_from turn j) } else c

-- the clocks once no thread that wants a lock comes before this turn; those of others stay
pub record ArePassed (turn : Turn) (threads : List Thread)
    (old new : List ThreadClock) : Type 0 where
  pub count : length new ≡ length old
  pub each : (j : ℕ) → j < length threads
      → clock_of new j ≡ passed turn j (phase_of threads j) (clock_of old j)
  pub forward : time_of old ≤ time_of new
