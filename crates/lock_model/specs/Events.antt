-- Believed: a contract of the headline stands on it.
-- What one event does to the threads.
use Rattle.std.specs.Prelude.{◌≡◌, ℕ, ◌+◌, ◌<◌, ◌≤◌, List, [], ◌∷◌, ◌++◌, length, Some, Bool, true}
use Rattle.std.specs.Prelude.{false, slice_get}
use Rattle.lock_model.specs.Machine.{Setup, Event, advance, after_step, again, answer, attempt}
use Rattle.lock_model.specs.Machine.{can_advance, can_attempt, fits_job, happens, is_allowed, wants}
use Rattle.lock_model.specs.Machine.{with_outcome}
use Rattle.lock_model.specs.Machine.Event.{Advances, Attempts}
use Rattle.lock_model.specs.Runs.{calls_in}
use Rattle.lock_model.specs.Schedule.{next_event}
use Rattle.lock_model.specs.State.{Job, Phase, State, Thread, thread_of}
use Rattle.lock_model.specs.State.Phase.{Blocked, Ended, Granted, Outside, Recorded, ToOutside}
use Rattle.lock_model.specs.State.Phase.{Working}
use Rattle.sequential_object.specs.Step.{Carried}
use Rattle.posix_terms.specs.Calls.{Call}
use Rattle.posix_terms.specs.declared.outcome.Given.{Given}
use Rattle.posix_terms.specs.declared.step.Step.{Step}

-- the thread whose event it is
abbrev pub thread_in : Event → ℕ
thread_in (Advances i) = i
thread_in (Attempts i) = i

-- in a call
abbrev pub IsIn : Phase → Bool
IsIn Working = false
IsIn Ended = false
IsIn p = true

-- the event of thread i that needs no turn leads from t to u: it does what its phase says
pub data IsMoved (setup : Setup) (i : ℕ) (t u : Thread) : Type 0 where
  AsksStep : (asked : Step) → (phase : t.phase ≡ Working)
      → (next : setup.supply.next i t.asked t.replies ≡ Some asked)
      → (is : u ≡ after_step setup.calls t asked) → IsMoved setup i t u
  GoesOut : (job : Job) → (phase : t.phase ≡ ToOutside job)
      → (is : u ≡ record t { phase = Outside job; clock = t.clock + setup.limits.door_cost })
      → IsMoved setup i t u
  GetsOutcome : (job : Job) → (outcome : Given) → (phase : t.phase ≡ Outside job)
      → (next : slice_get (setup.supply.outcomes i) (length t.came) ≡ Some outcome)
      → (fits : fits_job setup.calls job outcome ≡ true)
      → (is : u ≡ (with_outcome t job outcome).thread) → IsMoved setup i t u
  AnswersGranted : (job : Job) → (phase : t.phase ≡ Granted job)
      → (is : u ≡ (answer setup.calls t job).thread) → IsMoved setup i t u
  AnswersRecorded : (job : Job) → (phase : t.phase ≡ Recorded job)
      → (is : u ≡ (answer setup.calls t job).thread) → IsMoved setup i t u
  MakesAgain : (call : Call) → (carried : Carried) → (phase : t.phase ≡ Blocked call carried)
      → (is : u ≡ (again t call carried).thread) → IsMoved setup i t u

-- an attempt asks nothing, is answered nothing, and leads from within a call into it
pub record Tried (t u : Thread) : Type 0 where
  pub asked : u.asked ≡ t.asked
  pub replies : u.replies ≡ t.replies
  pub came : u.came ≡ t.came
  pub before : IsIn t.phase ≡ true
  pub after : IsIn u.phase ≡ true

-- the laws of one event: what it leaves as it is, and what it does to its own thread
pub record EventLaws : Type 0 where
  -- an event that is not allowed changes nothing
  pub not_allowed : (setup : Setup) (e : Event) (s : State) → is_allowed setup e s ≡ false
      → happens setup e s ≡ s
  -- the next event of the plain run is allowed
  pub next_allowed : (setup : Setup) (s : State) (e : Event) → next_event setup s ≡ Some e
      → is_allowed setup e s ≡ true
  -- no event adds a thread or takes one away
  pub count : (setup : Setup) (s : State) (e : Event)
      → length (happens setup e s).threads ≡ length s.threads
  -- and none changes another thread than its own
  pub others : (setup : Setup) (s : State) (e : Event) (k : ℕ) → (thread_in e ≡ k → ⊥)
      → thread_of (happens setup e s) k ≡ thread_of s k
  -- none takes a clock past its limit
  pub room : (setup : Setup) (s : State) (e : Event) → is_allowed setup e s ≡ true
      → (thread_of (happens setup e s) (thread_in e)).clock ≤ setup.limits.clock_limit
  -- one that needs no turn does what the phase of its thread says
  pub moved : (setup : Setup) (s : State) (i : ℕ) → can_advance setup s i ≡ true
      → IsMoved setup i (thread_of s i) (thread_of (advance setup i s) i)
  -- an attempt is made by a thread that wants a lock, leaves it in
  -- its call, and costs, whether it succeeds or not
  pub wanting : (setup : Setup) (s : State) (i : ℕ) → can_attempt setup s i ≡ true
      → wants (thread_of s i).phase ≡ true
  pub tried : (setup : Setup) (s : State) (i : ℕ) → can_attempt setup s i ≡ true
      → Tried (thread_of s i) (thread_of (attempt setup i s) i)
  pub costs : (setup : Setup) (s : State) (i : ℕ) → can_attempt setup s i ≡ true
      → (thread_of s i).clock < (thread_of (attempt setup i s) i).clock
  -- of the steps that a thread asked, each is a call or none by itself
  pub calls : (asked : List Step) (x : Step)
      → calls_in (asked ++ x ∷ []) ≡ calls_in asked + calls_in (x ∷ [])
