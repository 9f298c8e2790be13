-- Believed: a contract of the headline stands on it.
-- Which object's lock a call takes, and which calls keep the table while they are outside.
use Rattle.std.specs.Prelude.{◌≡◌, is_some, ℕ, Bool, true, false, Option, Some, None}
use Rattle.sequential_object.specs.Decided.{decided}
use Rattle.sequential_object.specs.Deciding.{leads_outside}
use Rattle.sequential_object.specs.Meant.{locks_of, seen}
use Rattle.sequential_object.specs.Object.{State, Description}
use Rattle.std.specs.FinMap as map
use Rattle.sequential_object.specs.Step.{Carried, asks, step}
use Rattle.posix_terms.specs.Calls.{Call}
use Rattle.posix_terms.specs.declared.call.Call.TheVariants as call
use Rattle.posix_terms.specs.declared.outcome.Outcome.{Outcome}
use Rattle.posix_terms.specs.declared.transcript.Settings.{Settings}

-- none where the table alone refuses or answers the call
unfoldable pub locked_object : State → Call → Carried → Option ℕ
locked_object s c carried = locks_of (decided (seen s) c carried.moved)

-- a call that opens a door keeps the table to its answer
abbrev pub keeps_table : Call → Bool
keeps_table (call.HostOpen path access flags) = true
keeps_table (call.TcpListen port) = true
keeps_table (call.TcpConnect port) = true
keeps_table (call.TcpAccept descriptor) = true
keeps_table c = false

-- a description of the object leads outside
pub record HasDoor (s : State) (object : ℕ) : Type 0 where
  pub key : ℕ
  pub description : Description
  pub there : map.get s.descriptions key ≡ Some description
  pub own : description.object ≡ object
  pub outside : leads_outside description.«end» ≡ true

-- a call that goes outside takes the lock of a door, or of the one that it would open
abbrev pub LocksDoor : State → Bool → Option ℕ → Type 0
LocksDoor s keeps None = ⊥
LocksDoor s true (Some object) = object ≡ s.next_object
LocksDoor s false (Some object) = HasDoor s object

-- each call that goes outside takes such a lock
abbrev pub OutsideLocks : Type 0
OutsideLocks =
    (s : State) (c : Call) (carried : Carried) → is_some (asks s c carried) ≡ true
    → LocksDoor s (keeps_table c) (locked_object s c carried)

-- and only such a call keeps the table
abbrev pub KeepsOutside : Type 0
KeepsOutside = (s : State) (c : Call) (carried : Carried) → keeps_table c ≡ true
    → is_some (locked_object s c carried) ≡ is_some (asks s c carried)

-- a call that frees the table before it goes outside leaves the same state whatever its outcome
abbrev pub LeavesAlike : Type 0
LeavesAlike =
    (settings : Settings) (s : State) (c : Call) (o : Option Outcome) (carried : Carried)
    → keeps_table c ≡ false
    → (step settings s c o carried).after ≡ (step settings s c None carried).after
