-- Believed: a contract of the headline stands on it.
-- What a call takes along that goes outside, by the definitions of the calls.
use Rattle.std.specs.Prelude.{◌≡◌, is_some, ℕ, Bool, true, false, Option, Some, None, Result, Ok}
use Rattle.std.specs.Prelude.{Err}
use Rattle.sequential_object.specs.Descriptors.{described}
use Rattle.sequential_object.specs.Effects.{Effect, Asks}
use Rattle.sequential_object.specs.Locked.{keeps_table, locked_object}
use Rattle.sequential_object.specs.Object.{State, Description}
use Rattle.sequential_object.specs.Step.{Carried, asks, effect_of}
use Rattle.posix_terms.specs.Calls.{Call}
use Rattle.posix_terms.specs.declared.call.Call.TheVariants as call
use Rattle.posix_terms.specs.declared.errno.Errno.{Errno}

-- the object of a descriptor, if it is open
abbrev pub object_found : Result (ℕ × Description) Errno → Option ℕ
object_found (Ok found) = Some found.1.object
object_found (Err e) = None

-- the object whose door a call takes along: that of the listener which it accepts from, none where
-- a file or a listener is opened or a peer connected to, and else the one whose lock it takes
abbrev pub door_taken : State → Call → Carried → Option ℕ
door_taken s (call.HostOpen path access flags) carried = None
door_taken s (call.TcpListen port) carried = None
door_taken s (call.TcpConnect port) carried = None
door_taken s (call.TcpAccept descriptor) carried = object_found (described s descriptor)
door_taken s c carried = locked_object s c carried

-- whether a call with this effect goes outside, and waits where that fails with EAGAIN
abbrev pub waits_by : Result Effect Errno → Bool
waits_by (Ok (Asks a)) = a.waits
waits_by effect = false

-- whether the failure EAGAIN is not a reply to a call that goes outside, but makes it wait
abbrev pub waits_outside : State → Call → Carried → Bool
waits_outside s c carried = waits_by (effect_of s c carried)

-- a call that frees the table before it goes outside takes along the door that it locks
abbrev pub TakesLocked : Type 0
TakesLocked =
    (s : State) (c : Call) (carried : Carried)
    → keeps_table c ≡ false → door_taken s c carried ≡ locked_object s c carried

-- a call that opens a door locks the object that is born next, which the door becomes
abbrev pub LocksNext : Type 0
LocksNext =
    (s : State) (c : Call) (carried : Carried) → keeps_table c ≡ true
    → is_some (asks s c carried) ≡ true
    → locked_object s c carried ≡ Some s.next_object
