-- Believed: a contract of the headline stands on it.
-- The doors of a machine, by object number.
use Rattle.std.specs.Prelude.{◌≡◌, ℕ, Bool, true, false, not, ◌&&◌, List, Option, Some, None}
use Rattle.std.specs.Prelude.{is_some, get_or, set, Result, Ok, Err}
use Rattle.descriptor_table.specs.declared.plan.Errand.{Errand}
use Rattle.lock_machine.specs.declared.thread.Outing.{Outing}
use Rattle.lock_machine.specs.declared.thread.Phase.{Phase}
use Rattle.lock_machine.specs.declared.thread.Phase.TheVariants as phase
use Rattle.posix_terms.specs.Outcomes.{fits}
use Rattle.posix_terms.specs.declared.outcome.OutKind.{OutKind}
use Rattle.posix_terms.specs.declared.outcome.OutKind.TheVariants as out
use Rattle.posix_terms.specs.declared.outcome.Outcome.{Outcome}
use Rattle.call_turns.specs.Doors.{brings_back, is_ok, takes_along}

-- the door that stands at a number, if there is a number
abbrev pub door_at : {D : Type 0} → List (Option D) → Option ℕ → Option D
door_at doors None = None
door_at doors (Some n) = get_or doors n None

-- without it
abbrev pub without : {D : Type 0} → List (Option D) → Option ℕ → List (Option D)
without doors None = doors
without doors (Some n) = set doors n None

-- with a door put there, if there is one
abbrev pub put : {D : Type 0} → List (Option D) → Option ℕ → Option D → List (Option D)
put doors (Some n) (Some door) = set doors n (Some door)
put doors (Some n) None = doors
put doors None door = doors

-- the door that went out comes back, and one that was opened gets the number that its call locked
abbrev pub doors_after : {D : Type 0} → List (Option D) → Outing → Option D → Option D
    → List (Option D)
doors_after doors o old new = put (put doors o.errand.door old) o.object new

-- ## What goes with an outcome

-- the kinds of requests by which a door is opened
abbrev pub opens_door : OutKind → Bool
opens_door out.Open = true
opens_door out.Listen = true
opens_door out.Connect = true
opens_door out.Accept = true
opens_door k = false

-- the second holds exactly when the first does
abbrev pub exactly_where : Bool → Bool → Bool
exactly_where true b = b
exactly_where false b = not b

-- the outcome fits what was asked; with it comes back the door that went out, unless it was closed,
-- and a new one where one was opened
abbrev pub is_answer_to : Errand → Outcome → Bool → Bool → Bool
is_answer_to e o old new =
    fits e.kind e.asked o
    && (exactly_where old (brings_back e.kind) && exactly_where new (opens_door e.kind && is_ok o))

-- of a thread that is outside
abbrev pub is_answer : Phase → Outcome → Bool → Bool → Bool
is_answer (phase.Outside o) outcome old new = is_answer_to o.errand outcome old new
is_answer p outcome old new = true

-- ## What goes out

-- the number whose door a thread takes along
abbrev pub taken_along : Phase → Option ℕ
taken_along (phase.ToOutside o) = o.errand.door
taken_along p = None

-- a door goes out exactly when the request is of a kind for which one does
abbrev pub GoesAlong : {D : Type 0} → Option D → Phase → Type 0
GoesAlong door (phase.ToOutside o) = is_some door ≡ takes_along o.errand.kind
GoesAlong door p = Unit {0}

-- where it goes
abbrev pub without_if : {A B D : Type 0} → Result A B → Option ℕ → List (Option D) → List (Option D)
without_if (Ok a) number doors = without doors number
without_if (Err e) number doors = doors
