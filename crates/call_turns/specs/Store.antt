-- Believed: a contract of the headline stands on it.
-- The shared table with the bodies of its objects, and the world that they stand for.
use Rattle.std.specs.Prelude.{◌≡◌, ℕ, ◌≤◌, ◌<◌, Bool, true, false, List, nat_le, replicate}
use Rattle.std.specs.Prelude.{slice_index_or, Option, Some, None, Result, Ok}
use Rattle.std.specs.FinMap as map
use Rattle.std.specs.Option.{option_map}
use Rattle.sequential_object.specs.Object.{Content}
use Rattle.sequential_object.specs.Locked.{keeps_table, locked_object}
use Rattle.posix_terms.specs.Outcomes.{fits}
use Rattle.sequential_object.specs.Step.{Carried, asks, step}
use Rattle.posix_terms.specs.Calls.{Call}
use Rattle.posix_terms.specs.declared.carried.Moved.{Moved}
use Rattle.posix_terms.specs.declared.errno.Errno.{Errno}
use Rattle.sequential_object.specs.declared.turn_end.ActEnd.{ActEnd}
use Rattle.posix_terms.specs.declared.call.Call.TheVariants as call
use Rattle.posix_terms.specs.declared.limits.TheConstants.Limits as limit
use Rattle.posix_terms.specs.declared.outcome.Outcome.{Outcome}
use Rattle.posix_terms.specs.Queries.{Query}
use Rattle.posix_terms.specs.declared.transcript.Settings.{Settings}
use Rattle.file_descriptions.specs.Descriptions.{AreSound}
use Rattle.sequential_object.specs.Bytes.{read_count, reply_bytes}
use Rattle.sequential_object.specs.Decided.{decided}
use Rattle.sequential_object.specs.declared.decision.Decision.{Decision}
use Rattle.sequential_object.specs.declared.decision.Decision.TheVariants as decision
use Rattle.descriptor_table.specs.Agreement.{query_of}
use Rattle.descriptor_table.specs.Plans.{bytes_asked}
use Rattle.descriptor_table.specs.Shows as shown
use Rattle.descriptor_table.specs.Table.{IsSound, TableState, empty_table}
use Rattle.descriptor_table.specs.View.{view}
use Rattle.descriptor_table.specs.declared.plan.Errand.{Errand}
use Rattle.sequential_object.specs.Numbers.{world_with}
use Rattle.sequential_object.specs.Answers.{answer_in, numbered}
use Rattle.sequential_object.specs.Worlds.{World}
use Rattle.call_turns.specs.Bodies.{Kept, first_kept, kept_as}
use Rattle.call_turns.specs.Errands.{door_taken, waits_outside}
use Rattle.call_turns.specs.Patience.{ended, outside_ending, turn_bytes}
use Rattle.sequential_object.specs.declared.turn_end.TurnEnd.{TurnEnd}
use Rattle.sequential_object.specs.declared.turn_end.TurnEnd.TheVariants as end
use Rattle.call_turns.specs.declared.patience.AtTable.{AtTable}
use Rattle.call_turns.specs.declared.patience.Locking.{Locking}
use Rattle.call_turns.specs.declared.patience.AtTable.TheVariants as at
use Rattle.call_turns.specs.declared.patience.TurnStart.{TurnStart}
use Rattle.call_turns.specs.declared.patience.TurnStart.TheVariants as start

-- the table, and by object number what the objects hold
pub record Stored : Type 0 where
  pub table : TableState
  pub bodies : List Kept

-- what is under this number
abbrev pub kept_at : Stored → ℕ → Kept
kept_at h object = slice_index_or h.bodies object first_kept

-- the bytes of the file with this number
abbrev pub body_at : Stored → ℕ → List ℕ
body_at h object = (kept_at h object).file

-- they stand for the sequential object, its contents too, and for the numbers of its objects
pub record Stands (h : Stored) (w : World) : Type 0 where
  pub sound : IsSound h.table
  pub described : AreSound h.table.descriptions
  pub shows : shown.Shows h.table w.object
  pub contents : (object birth : ℕ) → slice_index_or h.table.objects object None ≡ Some birth
      → (content : Content) → map.get w.object.objects birth ≡ Some content
      → content ≡ kept_as content (kept_at h object)
  pub numbers : w.numbers ≡ h.table.objects

-- what was decided of a call that takes the lock of an object
abbrev pub locking_of : Result Decision Errno → Option Locking
locking_of (Ok (decision.Locks object d)) = Some (record { object = object; deed = d })
locking_of d = None

-- of one that moved so much before
abbrev pub locking_at : Stored → Call → Moved → Option Locking
locking_at h c moved = locking_of (decided (view h.table) c moved)

-- the number of the object that a call locks which carries this
abbrev pub number_locked : Stored → Call → Carried → Option ℕ
number_locked h c carried =
    option_map (λ (x : Locking). x.object) (locking_at h c carried.moved)

-- in whatever world they stand for it is the number of the object whose lock the call takes
abbrev pub LocksAsStep : Type 0
LocksAsStep =
    (h : Stored) (w : World) (c : Call) (carried : Carried) → Stands h w
    → number_locked h c carried ≡ numbered w (locked_object w.object c carried)

-- a turn that goes outside with this errand, in this world: it asks what the call asks, at the door
-- that the call takes along, and EAGAIN makes it wait exactly
-- when it makes the call wait. Unless it
-- keeps the table, its change is made, whatever will come of it, and it will end as the errand has
-- it
pub record GoesOut (settings : Settings) (w : World) (carried : Carried) (old : Stored) (c : Call)
    (errand : Errand) (new : Stored) : Type 0 where
  pub request : asks w.object c carried ≡ query_of c errand
  pub door : errand.door ≡ numbered w (door_taken w.object c carried)
  pub waits : errand.waits ≡ waits_outside w.object c carried
  pub change : keeps_table c ≡ false
      → Stands new (world_with w (step settings w.object c None carried).after)
  pub ends : keeps_table c ≡ false → (o : Outcome)
      → let stepped = step settings w.object c (Some o) carried in
      (stepped.answer, stepped.carried)
      ≡ ended settings w.object carried (outside_ending errand (Some o))
  pub kept : keeps_table c ≡ true → new ≡ old

-- a turn that asks nothing outside: so it ended, and now they stand for the world after it
pub record EndsAt (settings : Settings) (w : World) (carried : Carried) (c : Call) (e : TurnEnd)
    (new : Stored) : Type 0 where
  pub request : asks w.object c carried ≡ None
  pub answer_is : answer_in (step settings w.object c None carried) ≡ e
  pub change : Stands new (world_with w (step settings w.object c None carried).after)

-- how a turn of a call starts that carries this
abbrev pub StartsIn : Settings → World → Carried → Stored → Call → TurnStart → Stored → Type 0
StartsIn settings w carried old c (start.Ended e) new = EndsAt settings w carried c e new
StartsIn settings w carried old c (start.GoesOut errand) new =
    GoesOut settings w carried old c errand new

-- with this patience, and in whatever world they stood for
abbrev pub Performs : ℕ → Carried → Stored → Call → TurnStart → Stored → Type 0
Performs patience carried old c x new = (settings : Settings) (w : World)
    → settings.patience ≡ patience → Stands old w → StartsIn settings w carried old c x new

-- this was decided of the call, which moved so much before
abbrev pub IsDecided : Stored → Call → Moved → Locking → Type 0
IsDecided h c moved x = locking_at h c moved ≡ Some x

-- what a call that carries this comes to with the table alone: its turn, at whatever patience; or
-- it locks an object, with what was decided, and nothing has changed
abbrev pub ComesTo : Carried → Stored → Call → AtTable → Stored → Type 0
ComesTo carried old c (at.Answers r) new =
    (number_locked old c carried ≡ None)
    × ((patience : ℕ) → Performs patience carried old c (start.Ended (end.Reply r)) new)
    × (reply_bytes r ≤ read_count c)
ComesTo carried old c (at.Locks x) new =
    (number_locked old c carried ≡ Some x.object) × (x.object < limit.OBJECTS)
    × IsDecided old c carried.moved x × (new ≡ old)

-- a turn that ended brings no more bytes than the call may read. One that goes outside asks no
-- more, and leaves the room for them as it was
abbrev pub UsesRoom : ℕ → List ℕ → List ℕ → TurnStart → Type 0
UsesRoom most old new (start.Ended e) = turn_bytes e ≤ most
UsesRoom most old new (start.GoesOut errand) = (new ≡ old) × (bytes_asked errand ≤ most)

-- a call that keeps the table while it is outside has changed nothing
abbrev pub KeepsStore : Bool → TurnStart → Stored → Stored → Type 0
KeepsStore true (start.GoesOut errand) old new = new ≡ old
KeepsStore keep x old new = Unit {0}

-- a turn of a call that kept the table while it was outside ended so, by an outcome that fits what
-- it asked
abbrev pub Opens : ℕ → Carried → Stored → Call → Outcome → TurnEnd → Stored → Type 0
Opens patience carried old c o e new =
    (settings : Settings) (w : World) (r : Query)
    → settings.patience ≡ patience → Stands old w → keeps_table c ≡ true
    → asks w.object c carried ≡ Some r → fits r.kind r.asked o ≡ true
    → let stepped = step settings w.object c (Some o) carried in
    (answer_in stepped ≡ e) × Stands new (world_with w stepped.after)

-- the act of a turn of a call that carries this was made, in whatever world they stood for: so it
-- ended
abbrev pub EndsTurn : Carried → Stored → Call → ActEnd → Stored → Type 0
EndsTurn carried old c e new =
    (settings : Settings) (w : World) → Stands old w →
    let stepped = step settings w.object c None carried in
    ((stepped.answer, stepped.carried) ≡ ended settings w.object carried e)
    × Stands new (world_with w stepped.after)

-- nothing is open, and there is only the root
abbrev pub first_stored : Stored
first_stored = record { table = empty_table; bodies = replicate limit.OBJECTS first_kept }

-- a listener is opened at a port
abbrev pub at_port : Call → ℕ → Bool
at_port (call.TcpListen port) value = nat_le value 65535
at_port c value = true
