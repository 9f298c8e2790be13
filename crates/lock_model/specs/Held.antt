-- Believed: a contract of the headline stands on it.
-- Which locks and which row a thread has and what it asked last, by its phase.
use Rattle.std.specs.Prelude.{◌≡◌, ℕ, ◌-◌, ◌<◌, List, length, Option, Some, None, Bool, true, false}
use Rattle.std.specs.Prelude.{not, ◌||◌, slice_get}
use Rattle.lock_model.specs.CallTable.{CallTable, Plan, Way, has_object, keeps_table}
use Rattle.lock_model.specs.CallTable.Plan.{No_object, Object}
use Rattle.lock_model.specs.Machine.{fits_job, is_number, is_open}
use Rattle.lock_model.specs.State.{Job, Phase, Row, State, Thread, thread_of, object_of}
use Rattle.sequential_object.specs.Step.{Carried}
use Rattle.posix_terms.specs.Calls.{Call}
use Rattle.posix_terms.specs.declared.outcome.Given.{Given}
use Rattle.lock_model.specs.State.Phase.{Working, WantsTable, WantsObject, Granted, ToOutside}
use Rattle.lock_model.specs.State.Phase.{Outside, Recorded, Blocked, Ended}
use Rattle.posix_terms.specs.declared.step.Step.{Step}
use Rattle.posix_terms.specs.declared.step.Step.TheVariants as step

-- the call that was granted and is not answered
abbrev pub job_in : Phase → Option Job
job_in (Granted job) = Some job
job_in (ToOutside job) = Some job
job_in (Outside job) = Some job
job_in (Recorded job) = Some job
job_in phase = None

-- the object whose lock a call planned so takes, if it takes one
abbrev pub object_in : Plan → Option ℕ
object_in No_object = None
object_in (Object number way) = Some number

-- the object whose lock is held for this granted call
abbrev pub object_held_by : Option Job → Option ℕ
object_held_by (Some job) = object_in job.plan
object_held_by None = None

-- the table is held for this granted call
abbrev pub table_held_by : Option Job → Bool
table_held_by (Some job) = not (has_object job.plan) || keeps_table job.plan
table_held_by None = false

-- the object whose lock a thread holds in this phase
abbrev pub object_held : Phase → Option ℕ
object_held phase = object_held_by (job_in phase)

-- whether it holds the table
abbrev pub holds_table : Phase → Bool
holds_table (WantsObject c b clock n way) = true
holds_table phase = table_held_by (job_in phase)

-- each lock is held by exactly the thread whose phase says so
pub record AreHeld (s : State) : Type 0 where
  pub table : (i : ℕ) → is_number s.table.holder i ≡ holds_table (thread_of s i).phase
  pub objects : (i n : ℕ) → n < length s.objects
      → is_number (object_of s n).holder i ≡ is_number (object_held (thread_of s i).phase) n

-- the row of a call that was granted and is not answered
abbrev pub row_of : Job → Row
row_of job = record { turn = job.turn; call = job.call; outcome = job.outcome; answer = None }

-- a thread in a call has one row without an answer, that of its call
pub record HaveRows (s : State) : Type 0 where
  pub own : (i : ℕ) (job : Job) → job_in (thread_of s i).phase ≡ Some job → (k : ℕ)
      × (slice_get s.rows k ≡ Some (row_of job)) × (job.turn.thread ≡ i)
  pub one : (i j k : ℕ) (r q : Row) → slice_get s.rows j ≡ Some r → slice_get s.rows k ≡ Some q
      → is_open i r ≡ true → is_open i q ≡ true → j ≡ k

-- ## Plans

-- each call was planned in the world that it found, which is this one still while it keeps
-- the table; and it has an outcome once that came, which answers what it asks
pub record HavePlans (calls : CallTable) (s : State) : Type 0 where
  pub wants : (i : ℕ) (c : Call) (b : Carried) (clock n : ℕ) (way : Way)
      → (thread_of s i).phase ≡ WantsObject c b clock n way → calls.plan s.world c b ≡ Object n way
  pub found : (i : ℕ) (job : Job) → job_in (thread_of s i).phase ≡ Some job
      → job.plan ≡ calls.plan job.found job.call job.carried
  pub kept : (i : ℕ) (job : Job) → job_in (thread_of s i).phase ≡ Some job
      → keeps_table job.plan ≡ true → job.found ≡ s.world
  pub waits : (i : ℕ) (job : Job) → (thread_of s i).phase ≡ Outside job → job.outcome ≡ None
  pub came : (i : ℕ) (job : Job) → (thread_of s i).phase ≡ Recorded job → (o : Given)
      × (job.outcome ≡ Some o) × (fits_job calls job o ≡ true)

-- ## Steps

-- the step that was asked last
abbrev pub last_step : List Step → Option Step
last_step asked = slice_get asked (length asked - 1)

-- the call that this step is, if it is one
abbrev pub call_of : Option Step → Option Call
call_of (Some (step.Call c)) = Some c
call_of x = None

-- this step is the end
abbrev pub is_end : Option Step → Bool
is_end (Some step.End) = true
is_end x = false

-- the call that was asked last, if the last step is one
abbrev pub last_call : List Step → Option Call
last_call asked = call_of (last_step asked)

-- the last step that was asked is the end
abbrev pub has_end : List Step → Bool
has_end asked = is_end (last_step asked)

-- the call that a thread is in
abbrev pub call_in : Phase → Option Call
call_in Working = None
call_in (WantsTable c b) = Some c
call_in (WantsObject c b clock n way) = Some c
call_in (Granted job) = Some job.call
call_in (ToOutside job) = Some job.call
call_in (Outside job) = Some job.call
call_in (Recorded job) = Some job.call
call_in (Blocked c b) = Some c
call_in Ended = None

-- a thread that is in a call asked it last, and one that works has not asked its end
pub record HasAsked (t : Thread) : Type 0 where
  pub call : (c : Call) → call_in t.phase ≡ Some c → last_call t.asked ≡ Some c
  pub works : t.phase ≡ Working → has_end t.asked ≡ false

-- each thread asked last what its phase says
abbrev pub HaveAsked : State → Type 0
HaveAsked s = (i : ℕ) → HasAsked (thread_of s i)
