-- Believed: a contract of the headline stands on it.
-- The events of the lock machine. Each is a function of the whole state,
-- which it leaves as it is where the event is not allowed.
use Rattle.std.specs.Prelude.{ℕ, ◌+◌, [], ◌∷◌, ◌++◌, length, map, set, Option, Some, None, Bool}
use Rattle.std.specs.Prelude.{true, false, not, ◌&&◌, ◌||◌, is_some, is_none, if◌then◌else◌, nat_lt}
use Rattle.std.specs.Prelude.{nat_le, ◌==◌, slice_get}
use Rattle.det_mutex.specs.Attempt.{takes, held, freed}
use Rattle.det_mutex.specs.declared.lock.DetLock.{DetLock}
use Rattle.lock_model.specs.CallTable.{CallTable, Plan, Way, has_object, keeps_table}
use Rattle.sequential_object.specs.declared.turn_end.TurnEnd.{TurnEnd}
use Rattle.sequential_object.specs.declared.turn_end.TurnEnd.TheVariants as turn_end
use Rattle.lock_model.specs.CallTable.Plan.{No_object, Object}
use Rattle.lock_model.specs.CallTable.Way.{Inside, Door, Keeps_table}
use Rattle.lock_model.specs.Programs.{Supply}
use Rattle.posix_terms.specs.declared.step.Step.{Step}
use Rattle.posix_terms.specs.declared.step.Step.TheVariants as step
use Rattle.lock_model.specs.State.{Job, Phase, Thread, Row, State, thread_of, object_of}
use Rattle.lock_model.specs.State.{live_clocks}
use Rattle.lock_model.specs.State.Phase.{Working, WantsTable, WantsObject, Granted, ToOutside}
use Rattle.lock_model.specs.State.Phase.{Outside, Recorded, Blocked, Ended}
use Rattle.sequential_object.specs.Worlds.{World}
use Rattle.posix_terms.specs.Calls.{Call}
use Rattle.posix_terms.specs.Outcomes.{dated, is_at, undated}
use Rattle.posix_terms.specs.declared.outcome.Given.{Given}
use Rattle.sequential_object.specs.Step.{Carried}
use Rattle.logical_clocks.specs.TurnOrder.{has_turn}
use Rattle.posix_terms.specs.declared.transcript.Turn.{Turn}

-- what going outside costs, and how far clocks and outcomes can go
pub record Limits : Type 0 where
  -- what a call adds to the clock when it goes outside
  pub door_cost : ℕ
  -- no clock passes it
  pub clock_limit : ℕ
  -- how many outcomes a thread can have
  pub outcome_limit : ℕ

-- what a run is made of: what calls do, its limits, and where steps and outcomes come from
pub record Setup : Type 0 where
  pub calls : CallTable
  pub limits : Limits
  pub supply : Supply

-- ## Events that need no turn

-- what such an event does beside its thread: to the row of the thread that
-- has no answer, to the locks that the thread holds (freed at these times),
-- and to the world, where the thread holds the table
pub record Effect : Type 0 where
  pub outcome : Option Given
  pub answer : Option TurnEnd
  pub object_freed : Option ℕ
  pub table_freed : Option ℕ
  pub world : Option World

-- a thread after its event, and the effect
pub record Moved : Type 0 where
  pub thread : Thread
  pub effect : Effect

-- the effect of an event that changes its thread alone
abbrev pub quiet : Effect
quiet = record {
  outcome = None;
  answer = None;
  object_freed = None;
  table_freed = None;
  world = None;
}

-- a thread after an event that changes nothing else
abbrev pub quietly : Thread → Moved
quietly t = record { thread = t; effect = quiet }

-- `ask`, and for the step End `end`
abbrev pub after_step : CallTable → Thread → Step → Thread
after_step calls t (step.Work n) =
    record t { phase = Working; clock = t.clock + n; asked = t.asked ++ step.Work n ∷ [] }
after_step calls t (step.Call c) =
    record t { phase = WantsTable c calls.nothing_carried; asked = t.asked ++ step.Call c ∷ [] }
after_step calls t step.End = record t { phase = Ended; asked = t.asked ++ step.End ∷ [] }

-- the thread asks its next step, if there is one
abbrev pub ask : CallTable → Thread → Option Step → Option Moved
ask calls t None = None
ask calls t (Some x) = Some (quietly (after_step calls t x))

-- `begin_outside`
abbrev pub begin_outside : Limits → Thread → Job → Option Moved
begin_outside limits t job =
    if nat_lt (length t.came) limits.outcome_limit
    then Some (quietly (record t { phase = Outside job; clock = t.clock + limits.door_cost }))
    else None

-- an outcome that a granted call can have, at its turn
abbrev pub fits_job : CallTable → Job → Given → Bool
fits_job calls job o =
    calls.fits (calls.asks job.found job.call job.carried) (undated o) && is_at job.turn o.clock

-- it comes with the clock of that turn, whether what was given has it or none
abbrev pub with_outcome : Thread → Job → Given → Moved
with_outcome t job o =
    let came = dated job.turn o in
    let recorded = Recorded (record job { outcome = Some came }) in
    record {
      thread = record t { phase = recorded; came = t.came ++ came ∷ [] };
      effect = record quiet { outcome = Some came };
    }

-- `record`: an outcome that does not fit is as good as none
abbrev pub record_outcome : CallTable → Thread → Job → Option Given → Option Moved
record_outcome calls t job None = None
record_outcome calls t job (Some o) = if fits_job calls job o then Some (with_outcome t job o)
    else None

-- 1 where this is so, as for a lock that is freed, and 0 where not
abbrev pub one_if : Bool → ℕ
one_if true = 1
one_if false = 0

-- the world as a call that kept the table leaves it
abbrev pub late_change : CallTable → Job → Option Given → Bool → Option World
late_change calls job (Some o) true = Some (calls.kept_change job.found job.call job.carried o)
late_change calls job None true = None
late_change calls job outcome false = None

-- a thread after the answer of its call, with this clock: it works on with the reply, or is
-- blocked
abbrev pub answered : Thread → Call → ℕ → TurnEnd → Thread
answered t c clock (turn_end.Reply r) =
    record t { phase = Working; clock = clock; replies = t.replies ++ r ∷ [] }
answered t c clock (turn_end.Blocked b) = record t { phase = Blocked c b; clock = clock }

-- `answer`: frees the object's lock, and then the table's where the call still holds it, each for 1
abbrev pub answer : CallTable → Thread → Job → Moved
answer calls t job =
    let next = t.clock + one_if (has_object job.plan) in
    let a = calls.answer job.found job.call job.outcome job.carried in
    record {
      thread = answered t job.call (next + one_if (not (has_object job.plan)
          || keeps_table job.plan)) a;
      effect =
          record {
            outcome = None;
            answer = Some a;
            object_freed = Some t.clock;
            table_freed = Some next;
            world = late_change calls job job.outcome (keeps_table job.plan);
          };
    }

-- `again`
abbrev pub again : Thread → Call → Carried → Moved
again t c b = quietly (record t { phase = WantsTable c b })

-- the event that thread i, in this phase, makes without the turn, whatever the limit of clocks
abbrev pub moves_in : Setup → ℕ → Thread → Phase → Option Moved
moves_in setup i t Working = ask setup.calls t (setup.supply.next i t.asked t.replies)
moves_in setup i t (Granted job) = Some (answer setup.calls t job)
moves_in setup i t (ToOutside job) = begin_outside setup.limits t job
moves_in setup i t (Outside job) =
    record_outcome setup.calls t job (slice_get (setup.supply.outcomes i) (length t.came))
moves_in setup i t (Recorded job) = Some (answer setup.calls t job)
moves_in setup i t (Blocked c b) = Some (again t c b)
moves_in setup i t phase = None

-- this event, if the clock of its thread is within the limit after it
abbrev pub within : ℕ → Option Moved → Option Moved
within limit None = None
within limit (Some m) = if nat_le m.thread.clock limit then Some m else None

-- the event that thread i, in this state, can make without the turn
unfoldable pub moves : Setup → ℕ → Thread → Option Moved
moves setup i t = within setup.limits.clock_limit (moves_in setup i t t.phase)

-- this number, of a thread or an object, is there and is i
abbrev pub is_number : Option ℕ → ℕ → Bool
is_number None i = false
is_number (Some j) i = j == i

-- a lock freed at this time, if there is one
abbrev pub freed_by : Option ℕ → DetLock → DetLock
freed_by None l = l
freed_by (Some clock) l = freed clock

-- a lock after an event of thread i: freed at this time, if the thread holds it
unfoldable pub lock_after : ℕ → Option ℕ → DetLock → DetLock
lock_after i o l = if is_number l.holder i then freed_by o l else l

-- the first if it is there, else the second
abbrev pub or_else : {A : Type 0} → Option A → A → A
or_else None a = a
or_else (Some b) a = b

-- the world after an event of thread i, which changes it only where it holds the table
unfoldable pub world_after : ℕ → DetLock → Option World → World → World
world_after i table o w = if is_number table.holder i then or_else o w else w

-- the row of thread i that has no answer
abbrev pub is_open : ℕ → Row → Bool
is_open i r = (r.turn.thread == i) && is_none r.answer

-- an outcome if it is there, else the one that comes now
abbrev pub first_of : Option Given → Option Given → Option Given
first_of (Some o) p = Some o
first_of None p = p

-- a row with what an event brings to it
abbrev pub filled_by : Effect → Row → Row
filled_by e r = record r { outcome = first_of r.outcome e.outcome; answer = e.answer }

-- a row after an event of thread i, which fills the one that has no answer
unfoldable pub row_after : ℕ → Effect → Row → Row
row_after i e r = if is_open i r then filled_by e r else r

-- the state after this event of thread i that needs no turn, if there is one
abbrev pub move : ℕ → Option Moved → State → State
move i None s = s
move i (Some m) s =
    record {
      threads = set s.threads i m.thread;
      table = lock_after i m.effect.table_freed s.table;
      objects = map (lock_after i m.effect.object_freed) s.objects;
      rows = map (row_after i m.effect) s.rows;
      world = world_after i s.table m.effect.world s.world;
    }

-- thread i can make an event that needs no turn
abbrev pub can_advance : Setup → State → ℕ → Bool
can_advance setup s i = is_some (moves setup i (thread_of s i))

-- thread i makes its event that needs no turn, if it can
unfoldable pub advance : Setup → ℕ → State → State
advance setup i s = move i (moves setup i (thread_of s i)) s

-- ## Attempts

-- an attempt that fails
abbrev pub failed : State → ℕ → Thread → State
failed s i t = record s { threads = set s.threads i (record t { clock = t.clock + 1 }) }

-- the row of a call that was just granted, without an outcome or an answer
abbrev pub new_row : Turn → Call → Row
new_row turn c = record { turn = turn; call = c; outcome = None; answer = None }

-- the phase of a thread whose call was granted, by whether it goes outside
abbrev pub granted_phase : Bool → Job → Phase
granted_phase true job = ToOutside job
granted_phase false job = Granted job

-- thread t with a call that was granted
abbrev pub granted : Thread → ℕ → Job → Bool → Thread
granted t clock job outside = record t { phase = granted_phase outside job; clock = clock }

-- a call that was just granted, at this turn and in the world that it found
abbrev pub new_job : Call → Carried → Turn → Plan → World → Job
new_job c b turn plan w = record {
  call = c;
  turn = turn;
  plan = plan;
  found = w;
  carried = b;
  outcome = None;
}

-- the table is taken, and the call planned: where it takes no
-- object it is granted, and makes its change
abbrev pub planned : CallTable → State → ℕ → Thread → Call → Carried → Turn → Plan → World → State
planned calls s i t c b turn No_object w =
    record {
      threads = set s.threads i (granted t (t.clock + 1) (new_job c b turn No_object w) false);
      table = held i s.table;
      objects = s.objects;
      rows = s.rows ++ new_row turn c ∷ [];
      world = calls.change w c b;
    }
planned calls s i t c b turn (Object n way) w =
    record {
      threads = set s.threads i (record t {
        phase = WantsObject c b turn.clock n way;
        clock = t.clock + 1;
      });
      table = held i s.table;
      objects = s.objects;
      rows = s.rows;
      world = s.world;
    }

-- the object is taken: a call that keeps the table is granted, and changes nothing yet
abbrev pub reached_keeping : State → ℕ → Thread → Call → ℕ → Job → State
reached_keeping s i t c n job =
    record {
      threads = set s.threads i (granted t (t.clock + 1) job true);
      table = s.table;
      objects = set s.objects n (held i (object_of s n));
      rows = s.rows ++ new_row job.turn c ∷ [];
      world = s.world;
    }

-- the object is taken: the call is granted, makes its change and frees the table
abbrev pub reached_freeing : CallTable → State → ℕ → Thread → Call → ℕ → Job → Bool → State
reached_freeing calls s i t c n job outside =
    record {
      threads = set s.threads i (granted t (t.clock + 2) job outside);
      table = freed (t.clock + 1);
      objects = set s.objects n (held i (object_of s n));
      rows = s.rows ++ new_row job.turn c ∷ [];
      world = calls.change job.found c job.carried;
    }

-- the object is taken, and the call is granted by the way in which it was planned
abbrev pub reached : CallTable → State → ℕ → Thread → Call → Carried → Turn → ℕ → Way → World
    → State
reached calls s i t c b turn n Inside w =
    reached_freeing calls s i t c n (new_job c b turn (Object n Inside) w) false
reached calls s i t c b turn n Door w =
    reached_freeing calls s i t c n (new_job c b turn (Object n Door) w) true
reached calls s i t c b turn n Keeps_table w =
    reached_keeping s i t c n (new_job c b turn (Object n Keeps_table) w)

-- `try_table` and `try_node`. A thread that wants an object always
-- holds the table: the test of that is never false
abbrev pub tries : CallTable → State → ℕ → Thread → Phase → State
tries calls s i t (WantsTable c b) =
    if takes s.table t.clock
    then planned calls s i t c b (record { clock = t.clock; thread = i }) (calls.plan s.world c b)
    s.world
    else failed s i t
tries calls s i t (WantsObject c b clock n way) =
    if is_number s.table.holder i && takes (object_of s n) t.clock
    then reached calls s i t c b (record { clock = clock; thread = i }) n way s.world
    else failed s i t
tries calls s i t phase = s

-- the state after thread i attempted the lock that it wants
abbrev pub tried : Setup → State → ℕ → State
tried setup s i = tries setup.calls s i (thread_of s i) (thread_of s i).phase

-- a thread in this phase wants a lock
abbrev pub wants : Phase → Bool
wants (WantsTable c b) = true
wants (WantsObject c b clock n way) = true
wants phase = false

-- thread i wants a lock and has the turn, and its clock stays within the limit
unfoldable pub can_attempt : Setup → State → ℕ → Bool
can_attempt setup s i = wants (thread_of s i).phase
    && (has_turn (live_clocks s) i
    && nat_le (thread_of (tried setup s i) i).clock setup.limits.clock_limit)

-- thread i makes its attempt, if it can
unfoldable pub attempt : Setup → ℕ → State → State
attempt setup i s = if can_attempt setup s i then tried setup s i else s

-- ## All events

-- one event of one thread: it makes the event that needs no turn, or attempts a lock
pub data Event : Type 0 where
  Advances : (thread : ℕ) → Event
  Attempts : (thread : ℕ) → Event

-- this event can be made in this state
abbrev pub is_allowed : Setup → Event → State → Bool
is_allowed setup (Advances i) s = can_advance setup s i
is_allowed setup (Attempts i) s = can_attempt setup s i

-- the state after this event, which changes nothing where it is not allowed
abbrev pub happens : Setup → Event → State → State
happens setup (Advances i) s = advance setup i s
happens setup (Attempts i) s = attempt setup i s
