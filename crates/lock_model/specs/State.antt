-- Believed: a contract of the headline stands on it.
-- The state of the lock machine.
use Rattle.std.specs.Prelude.{ℕ, List, [], replicate, get_or, map, Option, Some, None}
use Rattle.det_mutex.specs.Attempt.{new_lock}
use Rattle.det_mutex.specs.declared.lock.DetLock.{DetLock}
use Rattle.lock_model.specs.CallTable.{Plan, Way}
use Rattle.sequential_object.specs.declared.turn_end.TurnEnd.{TurnEnd}
use Rattle.posix_terms.specs.declared.step.Step.{Step}
use Rattle.sequential_object.specs.Worlds.{World}
use Rattle.posix_terms.specs.Calls.{Call}
use Rattle.posix_terms.specs.declared.outcome.Given.{Given}
use Rattle.posix_terms.specs.declared.reply.Reply.{Reply}
use Rattle.sequential_object.specs.Step.{Carried}
use Rattle.posix_terms.specs.declared.transcript.Turn.{Turn}

-- a granted call: with its turn, the world that it found, and its outcome once that came
pub record Job : Type 0 where
  pub call : Call
  pub turn : Turn
  pub plan : Plan
  pub found : World
  pub carried : Carried
  pub outcome : Option Given

-- where a thread is: it works, wants a lock, is in a granted call, is blocked, or has ended
pub data Phase : Type 0 where
  Working : Phase
  WantsTable : (call : Call) → (carried : Carried) → Phase
  -- holding the table, with the clock of its table attempt
  WantsObject : (call : Call) → (carried : Carried) → (clock : ℕ) → (number : ℕ) → (way : Way)
      → Phase
  Granted : (job : Job) → Phase
  ToOutside : (job : Job) → Phase
  Outside : (job : Job) → Phase
  Recorded : (job : Job) → Phase
  Blocked : (call : Call) → (carried : Carried) → Phase
  Ended : Phase

-- with the steps that it asked, the replies that it got and the outcomes that came for it
pub record Thread : Type 0 where
  pub phase : Phase
  pub clock : ℕ
  pub asked : List Step
  pub replies : List Reply
  pub came : List Given

-- a granted turn: its call, the outcome if it came, and the answer if it was given
pub record Row : Type 0 where
  pub turn : Turn
  pub call : Call
  pub outcome : Option Given
  pub answer : Option TurnEnd

-- the locks of the table and of each object number, the rows in the
-- order of the grants, and what the granted calls have made
pub record State : Type 0 where
  pub threads : List Thread
  pub table : DetLock
  pub objects : List DetLock
  pub rows : List Row
  pub world : World

-- what stands for a thread that is not there: it has ended
abbrev pub nobody : Thread
nobody = record { phase = Ended; clock = 0; asked = []; replies = []; came = [] }

-- thread i of a state
abbrev pub thread_of : State → ℕ → Thread
thread_of s i = get_or s.threads i nobody

-- the lock of object number n
abbrev pub object_of : State → ℕ → DetLock
object_of s n = get_or s.objects n new_lock

-- the clock of a thread, unless it has ended by its phase
abbrev pub live_clock_in : Phase → ℕ → Option ℕ
live_clock_in Ended clock = None
live_clock_in phase clock = Some clock

-- the clock of a thread that has not ended
abbrev pub live_clock : Thread → Option ℕ
live_clock t = live_clock_in t.phase t.clock

-- of each thread the clock, unless it has ended
abbrev pub live_clocks : State → List (Option ℕ)
live_clocks s = map live_clock s.threads

-- so many threads and object locks, over this world
abbrev pub start : ℕ → ℕ → World → State
start threads objects w =
    record {
      threads = replicate threads (record {
        phase = Working;
        clock = 1;
        asked = [];
        replies = [];
        came = [];
      });
      table = new_lock;
      objects = replicate objects new_lock;
      rows = [];
      world = w;
    }
