-- Internal: no contract of the headline or of a command stands on it.
-- What the events of a thread make of it and of what it shares.
use Rattle.std.specs.Prelude.{◌≡◌, ℕ, ◌+◌, ◌<◌, ◌^◌, List, [], ◌∷◌, ◌++◌, length, Option, Some}
use Rattle.std.specs.Prelude.{None, Bool, true, false, ◌&&◌, nat_le, slice_get, slice_set}
use Rattle.sequential_object.specs.Locked.{keeps_table}
use Rattle.posix_terms.specs.Calls.{Call}
use Rattle.posix_terms.specs.declared.reply.Answer as posix
use Rattle.posix_terms.specs.declared.limits.TheConstants.Limits as limit
use Rattle.posix_terms.specs.declared.transcript.HistoryRow.{HistoryRow}
use Rattle.posix_terms.specs.declared.transcript.Turn.{Turn}
use Rattle.det_mutex.specs.Attempt.{freed, held, takes}
use Rattle.det_mutex.specs.declared.lock.DetLock.{DetLock}
use Rattle.lock_model.specs.Machine.{is_number}
use Rattle.lock_machine.specs.Held.{end_held, turn_started, phase_behind, told_as}
use Rattle.call_turns.specs.Store.{Performs, Stored, number_locked}
use Rattle.lock_machine.specs.Threads.{Thread}
use Rattle.sequential_object.specs.declared.turn_end.TurnEnd.{TurnEnd}
use Rattle.sequential_object.specs.Step.{Carried}
use Rattle.call_turns.specs.declared.patience.TurnStart.{TurnStart}
use Rattle.lock_machine.specs.declared.thread.Phase.{Phase}
use Rattle.lock_machine.specs.declared.thread.Phase.TheVariants as phase

-- a thread, with a lock, the table with the bodies, and the rows
pub record Parts : Type 0 where
  pub thread : Thread
  pub lock : DetLock
  pub table : Stored
  pub rows : List HistoryRow

-- a thread with a lock, the table and the rows, taken together
abbrev pub parts : Thread → DetLock → Stored → List HistoryRow → Parts
parts thread lock table rows = record { thread = thread; lock = lock; table = table; rows = rows }

-- the thread's clock has room for so much
abbrev pub in_time : Parts → ℕ → Bool
in_time p cost = nat_le (p.thread.clock + cost) (2 ^ 62)

-- with the thread's clock moved on by so much
abbrev pub later : Parts → ℕ → Parts
later p cost = record p { thread = record p.thread { clock = p.thread.clock + cost } }

-- ## `answer`, with the lock that the call holds

-- the row has its answer, by how the turn ended
abbrev pub row_answered : Parts → ℕ → TurnEnd → HistoryRow → Parts
row_answered p row e q =
    record {
      thread = record p.thread { phase = phase_behind e; clock = p.thread.clock + 1 };
      lock = freed p.thread.clock;
      table = p.table;
      rows = slice_set p.rows row (record q { answer = Some (told_as e) });
    }

-- by how the turn ended and by the call's row: the answer is given, or nothing changes where one
-- of them is missing
abbrev pub AnswersWith : Option posix.Answer → ℕ → Option TurnEnd → Option HistoryRow → Parts
    → Parts → Type 0
AnswersWith told row (Some e) (Some q) old new =
    (told ≡ Some (told_as e)) × (new ≡ row_answered old row e q)
AnswersWith told row (Some e) None old new = (told ≡ None) × (new ≡ old)
AnswersWith told row None q old new = (told ≡ None) × (new ≡ old)

-- by whether the thread holds the lock and its clock has room: its call is answered, or nothing
-- changes
abbrev pub AnswersIn : Bool → Option posix.Answer → ℕ → Parts → Parts → Type 0
AnswersIn true told row old new =
    AnswersWith told row (end_held old.thread.phase) (slice_get old.rows row) old new
AnswersIn false told row old new = (told ≡ None) × (new ≡ old)

-- the answer is given, where there is one
abbrev pub Answers : Option posix.Answer → ℕ → ℕ → Parts → Parts → Type 0
Answers told i row old new =
    AnswersIn (is_number old.lock.holder i && in_time old 1) told row old new

-- ## The grant

-- the row of a call that was just granted, without an outcome or an answer
abbrev pub granted_row : Turn → Call → HistoryRow
granted_row turn call = record { call = call; turn = turn; outcome = None; answer = None }

-- a turn of a call that carries this is made: how it ended waits for the answer, or it goes outside
pub record Grants (patience : ℕ) (turn : Turn) (call : Call) (carried : Carried) (object : Option ℕ)
    (old new : Parts) : Type 0 where
  pub start : TurnStart
  pub performs : Performs patience carried old.table call start new.table
  pub thread : new.thread ≡ turn_started (length old.rows) object call carried start old.thread
  pub lock : new.lock ≡ old.lock
  pub rows : new.rows ≡ old.rows ++ granted_row turn call ∷ []

-- ## `try_table`, with the lock of the table

-- the call takes the lock of the object with this number, or of none
abbrev pub PlansTo : ℕ → Option ℕ → Turn → Call → Carried → Parts → Parts → Type 0
PlansTo patience None turn call carried old new = Grants patience turn call carried None old new
PlansTo patience (Some object) turn call carried old new =
    let phase = phase.WantsObject call carried turn.clock object in
    (object < limit.OBJECTS) × (new ≡ record old { thread = record old.thread { phase = phase } })

-- by whether the lock of the table opens: thread i takes it for its call, or its attempt fails
abbrev pub TriesLock : ℕ → Bool → ℕ → Call → Carried → Parts → Parts → Type 0
TriesLock patience true i call carried old new =
    PlansTo patience (number_locked old.table call carried)
    (record { clock = old.thread.clock; thread = i }) call carried
    (record (later old 1) { lock = held i old.lock }) new
TriesLock patience false i call carried old new = new ≡ later old 1

-- by whether the clock has room: an attempt is made, with this result; or none is, and this is left
abbrev pub IfInTime : Bool → Bool → Type 0 → Type 0 → Type 0
IfInTime true made tried rests = (made ≡ true) × tried
IfInTime false made tried rests = (made ≡ false) × rests

-- in this phase: a thread that wants the table attempts its lock, any other does nothing
abbrev pub TriesIn : ℕ → Phase → Bool → ℕ → Parts → Parts → Type 0
TriesIn patience (phase.WantsTable call carried) made i old new =
    IfInTime (in_time old 1) made
    (TriesLock patience (takes old.lock old.thread.clock) i call carried old new) (new ≡ old)
TriesIn patience p made i old new = (made ≡ false) × (new ≡ old)

-- thread i attempts the lock of the table, where its phase and its clock let it
abbrev pub Tries : ℕ → Bool → ℕ → Parts → Parts → Type 0
Tries patience made i old new = TriesIn patience old.thread.phase made i old new

-- ## `try_object`, with the lock of the table, and that of an object before and after

-- thread i holds the table, and takes the object
abbrev pub takes_object : ℕ → DetLock → Parts → Bool
takes_object i object p = is_number p.lock.holder i && takes object p.thread.clock

-- the object's lock then
abbrev pub object_taken : Bool → ℕ → DetLock → Option DetLock
object_taken true i object = Some (held i object)
object_taken false i object = None

-- whether the call that wants an object keeps the table to its answer
abbrev pub wants_to_keep : Phase → Bool
wants_to_keep (phase.WantsObject call carried clock object) = keeps_table call
wants_to_keep p = false

-- an attempt costs 1, and freeing the table 1 more
abbrev pub object_cost : Bool → Bool → ℕ
object_cost true false = 2
object_cost true true = 1
object_cost false keeps = 1

-- the object is taken
abbrev pub object_reached : Bool → Parts → Parts
object_reached true old = later old 1
object_reached false old = record (later old 2) { lock = freed (old.thread.clock + 1) }

-- a call that wants an object is granted with it
abbrev pub GrantsObject : ℕ → Phase → ℕ → Parts → Parts → Type 0
GrantsObject patience (phase.WantsObject call carried clock object) i old new =
    Grants patience (record { clock = clock; thread = i }) call carried (Some object) old new
GrantsObject patience p i old new = new ≡ old

-- a call that wants this object, with its turn
pub record ObjectWanted : Type 0 where
  pub turn : Turn
  pub call : Call
  pub carried : Carried
  pub object : ℕ

-- by whether its thread takes the object's lock: the call is granted with it, or the attempt fails
abbrev pub TriesObject : ℕ → Bool → ObjectWanted → DetLock → DetLock → Parts → Parts → Type 0
TriesObject patience true wanted lock now old new =
    (now ≡ held wanted.turn.thread lock)
    × Grants patience wanted.turn wanted.call wanted.carried (Some wanted.object)
    (object_reached (keeps_table wanted.call) old) new
TriesObject patience false wanted lock now old new = (now ≡ lock) × (new ≡ later old 1)

-- in this phase: a thread that wants an object attempts its lock, any other does nothing
abbrev pub ReachesIn : ℕ → Phase → Bool → ℕ → DetLock → DetLock → Parts → Parts → Type 0
ReachesIn patience (phase.WantsObject call carried clock object) made i lock now old new =
    let taken = takes_object i lock old in
    let wanted : ObjectWanted = record {
      turn = record { clock = clock; thread = i };
      call = call;
      carried = carried;
      object = object;
    } in
    IfInTime (in_time old (object_cost taken (keeps_table call))) made
    (TriesObject patience taken wanted lock now old new) ((now ≡ lock) × (new ≡ old))
ReachesIn patience p made i lock now old new = (made ≡ false) × (now ≡ lock) × (new ≡ old)

-- thread i attempts the lock of the object that it wants, where its phase and its clock let it
abbrev pub Reaches : ℕ → Bool → ℕ → DetLock → DetLock → Parts → Parts → Type 0
Reaches patience made i lock now old new =
    ReachesIn patience old.thread.phase made i lock now old new
