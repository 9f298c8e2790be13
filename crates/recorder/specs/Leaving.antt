-- Internal: no contract of the headline or of a command stands on it.
-- Why a worker leaves, and what it brings back from outside.
use Rattle.std.specs.Prelude.{◌≡◌, ◌⊎◌, ℕ, Bool, true, false, Option, None}
use Rattle.host_doors.specs.Opening.{HasDoor}
use Rattle.host_doors.specs.declared.stop.DoorStop.{DoorStop}
use Rattle.host_doors.specs.declared.stop.DoorStop.TheVariants as door_stop
use Rattle.machine.specs.declared.refused.Refused.{Refused}
use Rattle.machine.specs.declared.refused.Refused.TheVariants as refused
use Rattle.machine.specs.declared.stop.Stop.{Stop}
use Rattle.machine.specs.declared.stop.Stop.TheVariants as stop
use Rattle.posix_terms.specs.declared.outcome.Outcome.{Outcome}
use Rattle.posix_terms.specs.declared.outcome.OutKind.{OutKind}
use Rattle.posix_terms.specs.declared.outcome.OutKind.TheVariants as kind
use Rattle.recorder.specs.declared.leave.Leave.{Leave}
use Rattle.recorder.specs.declared.leave.Leave.TheVariants as leave

-- its outside had no more outcomes, or gave one that does not answer
abbrev pub is_of_outside : Leave → Bool
is_of_outside (leave.EndOfLog thread) = true
is_of_outside (leave.Diverged thread number) = true
is_of_outside why = false

-- why thread i leaves whose outside gave no outcome of this number
abbrev pub left_for : ℕ → ℕ → DoorStop → Leave
left_for i number door_stop.EndOfLog = leave.EndOfLog i
left_for i number door_stop.Diverged = leave.Diverged i number
left_for i number door_stop.Memory = leave.Memory

-- why a worker leaves whose event the machine refused for this. A sink that failed has stopped it
abbrev pub left_on : Refused → Leave
left_on (refused.Stopped cause) = leave.Stopped
left_on refused.Sink = leave.Stopped
left_on refused.ClockFull = leave.ClockFull
left_on refused.WrongPhase = leave.Memory
left_on refused.Memory = leave.Memory

-- thread i left since its outside gave no outcome of this number, or since there was no memory
abbrev pub IsLeft : ℕ → ℕ → Leave → Type 0
IsLeft i number why =
    (why ≡ leave.EndOfLog i) ⊎ (why ≡ leave.Diverged i number) ⊎ (why ≡ leave.Memory)

-- what a machine is stopped for, if it is not stopped already
abbrev pub cause_of : Leave → Stop
cause_of leave.Stopped = stop.Memory
cause_of leave.Memory = stop.Memory
cause_of leave.ClockFull = stop.ClockFull
cause_of (leave.EndOfLog thread) = stop.EndOfLog thread
cause_of (leave.Diverged thread number) = stop.Diverged thread number

-- a door comes with the success of an opening, and with nothing else
abbrev pub BringsDoor : {D : Type 0} → OutKind → Outcome → Option D → Type 0
BringsDoor kind.Open outcome door = HasDoor outcome door
BringsDoor kind.Listen outcome door = HasDoor outcome door
BringsDoor kind.Connect outcome door = HasDoor outcome door
BringsDoor kind.Accept outcome door = HasDoor outcome door
BringsDoor k outcome door = door ≡ None

-- a request that is made with a door, if it is, brings it back, unless it closes it
abbrev pub brings_back : OutKind → Bool → Bool
brings_back kind.Close with_door = false
brings_back k with_door = with_door
