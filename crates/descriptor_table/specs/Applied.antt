-- Internal: no contract of the headline or of a command stands on it.
-- What a whole call leaves of the table, by what is decided of it, and which numbers it gives.
use Rattle.std.specs.Prelude.{ℕ, ◌<◌, pos, Option, Some, None, Result, Ok, Err}
use Rattle.sequential_object.specs.Object.{State}
use Rattle.posix_terms.specs.Calls.{Call}
use Rattle.posix_terms.specs.declared.errno.Errno.{Errno}
use Rattle.posix_terms.specs.declared.limits.TheConstants.Limits as limit
use Rattle.posix_terms.specs.declared.outcome.Outcome.{Outcome}
use Rattle.posix_terms.specs.declared.outcome.Outcome.TheVariants as outcome
use Rattle.sequential_object.specs.Changes.{changed, door_opened}
use Rattle.sequential_object.specs.declared.decision.Act.{Act}
use Rattle.sequential_object.specs.declared.decision.Act.TheVariants as act
use Rattle.sequential_object.specs.declared.decision.Change.TheVariants as change
use Rattle.sequential_object.specs.declared.decision.Decision.{Decision}
use Rattle.sequential_object.specs.declared.decision.Decision.TheVariants as decision
use Rattle.sequential_object.specs.declared.decision.Deed.TheVariants as deed
use Rattle.sequential_object.specs.declared.decision.NewDescriptor.{NewDescriptor}
use Rattle.descriptor_table.specs.Changes.{IsPortOf}
use Rattle.descriptor_table.specs.declared.plan.NewNumbers.{NewNumbers}
use Rattle.descriptor_table.specs.declared.plan.NewNumbers.TheVariants as numbers

-- the value of a success
abbrev pub value_of : Option Outcome → Option ℕ
value_of (Some (outcome.Ok value bytes)) = Some value
value_of (Some (outcome.Fail e)) = None
value_of None = None

-- a door is made only where it was opened outside
abbrev pub with_door : State → Call → NewDescriptor → Option ℕ → State
with_door s c new (Some value) = door_opened s c new value
with_door s c new None = s

-- the state that a call leaves but for the contents and offsets that its act changes, by the
-- outcome of what it asks outside
abbrev pub left_of : State → Call → Option Outcome → Result Decision Errno → State
left_of s c o (Ok (decision.Replies r x)) = changed s c x
left_of s c o (Ok (decision.Locks object (deed.Acts a x))) = changed s c x
left_of s c o (Ok (decision.Locks object (deed.Asks blocks))) = s
left_of s c o (Ok (decision.Locks object (deed.Closes n key))) = changed s c (change.Close n key)
left_of s c o (Ok (decision.Locks object (deed.Opens blocks listener new))) =
    with_door s c new (value_of o)
left_of s c o (Err e) = s

-- the numbers of the descriptors that an act opens
abbrev pub numbers_of : Act → NewNumbers
numbers_of (act.Open n cut) = numbers.One (pos n)
numbers_of (act.Create n) = numbers.One (pos n)
numbers_of (act.Pipe first second) = numbers.Two (pos first) (pos second)
numbers_of (act.Socketpair first second) = numbers.Two (pos first) (pos second)
numbers_of a = numbers.None

-- which are numbers of descriptors
abbrev pub AreNumbers : Act → Type 0
AreNumbers (act.Open n cut) = n < limit.DESCRIPTORS
AreNumbers (act.Create n) = n < limit.DESCRIPTORS
AreNumbers (act.Pipe first second) = (first < limit.DESCRIPTORS) × (second < limit.DESCRIPTORS)
AreNumbers (act.Socketpair first second) =
    (first < limit.DESCRIPTORS) × (second < limit.DESCRIPTORS)
AreNumbers a = Unit {0}

-- the number of a door that was opened
abbrev pub door_given : ℕ → Option ℕ → NewNumbers
door_given n (Some value) = numbers.One (pos n)
door_given n None = numbers.None

-- the numbers that a call gives new descriptors
abbrev pub given : Option Outcome → Result Decision Errno → NewNumbers
given o (Ok (decision.Locks object (deed.Acts a x))) = numbers_of a
given o (Ok (decision.Locks object (deed.Opens blocks listener new))) =
    door_given new.number (value_of o)
given o d = numbers.None

-- it is a port, where a listener is opened
abbrev pub IsAtPort : Call → Option ℕ → Type 0
IsAtPort c (Some value) = IsPortOf c value
IsAtPort c None = Unit {0}
