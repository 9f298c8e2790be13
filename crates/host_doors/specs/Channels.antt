-- Internal: no contract of the headline or of a command stands on it.
-- What is read from a host file or a stream, and written to it.
use Rattle.std.specs.Prelude.{◌≡◌, ℕ, List, [], length, take, Result, Ok, Err}
use Rattle.std.specs.IoError.{error_kind}
use Rattle.std.specs.declared.io.Error.{Error}
use Rattle.std.specs.declared.io.ErrorKind.TheVariants as failure
use Rattle.posix_terms.specs.declared.outcome.OutKind.TheVariants as kind
use Rattle.posix_terms.specs.declared.outcome.Outcome.{Outcome}
use Rattle.posix_terms.specs.declared.outcome.Outcome.TheVariants as outcome
use Rattle.posix_terms.specs.declared.request.Request.{Request}
use Rattle.host_doors.specs.declared.door.HostDoor.{HostDoor}
use Rattle.host_doors.specs.declared.door.HostDoor.TheVariants as door
use Rattle.host_doors.specs.Host.{error_of}

-- what is asked cannot be done
abbrev pub IsInvalid : {A : Type 0} → Result A Error → Type 0
IsInvalid (Ok value) = ⊥
IsInvalid (Err error) = error_kind error ≡ failure.InvalidInput

-- the bytes of a read that answered so and left this in its
-- room: those at the front, as many as it counted
abbrev pub bytes_read : Result ℕ Error → List ℕ → Result (List ℕ) Error
bytes_read (Ok count) room = Ok (take count room)
bytes_read (Err error) room = Err error

-- one read gave this
pub record HasRead (gave : Result ℕ Error → List ℕ → Type 0) (found : Result (List ℕ) Error) : Type
    0 where
  pub answer : Result ℕ Error
  pub room : List ℕ
  pub came : gave answer room
  pub bytes : found ≡ bytes_read answer room

-- what is returned of a read: how many bytes there are, and these
abbrev pub outcome_of_read : Result (List ℕ) Error → Outcome
outcome_of_read (Ok bytes) = outcome.Ok (length bytes) bytes
outcome_of_read (Err error) = outcome.Fail (error_of (error_kind error))

-- what is returned of a write: how many bytes were taken
abbrev pub outcome_of_write : Result ℕ Error → Outcome
outcome_of_write (Ok count) = outcome.Ok count []
outcome_of_write (Err error) = outcome.Fail (error_of (error_kind error))

-- what may come of one read: the channel before, its room, the
-- answer, what stands in the room, and the channel after
abbrev pub Gave : Type 0 → Type 1
Gave C = C → ℕ → Result ℕ Error → List ℕ → C → Type 0

-- what may come of one write: the channel before, the bytes, the answer, and the channel after
abbrev pub Took : Type 0 → Type 1
Took C = C → List ℕ → Result ℕ Error → C → Type 0

-- one read of the channel, into as much room as is asked, gave what is returned
pub record TellsRead {C : Type 0} (gave : Gave C) (old new : C) (request : Request)
    (o : Outcome) : Type 0 where
  pub found : Result (List ℕ) Error
  pub read : HasRead (λ answer room. gave old request.asked answer room new) found
  pub told : request.kind ≡ kind.Read → o ≡ outcome_of_read found

-- one write to the channel, of the first of these bytes, as many as are asked, took what is
-- returned
pub record TellsWrite {C : Type 0} (took : Took C) (old new : C) (request : Request)
    (bytes : List ℕ) (o : Outcome) : Type 0 where
  pub answer : Result ℕ Error
  pub wrote : took old (take request.asked bytes) answer new
  pub told : request.kind ≡ kind.Write → o ≡ outcome_of_write answer

-- one read of a door is one of its file or its stream; a listener is not read
abbrev pub DoorGave : {F L S : Type 0} → Gave F → Gave S → Gave (HostDoor F L S)
DoorGave file stream (door.File old) asked answer room (door.File new) =
    file old asked answer room new
DoorGave file stream (door.Stream old) asked answer room (door.Stream new) =
    stream old asked answer room new
DoorGave file stream (door.Listener old) asked answer room new = IsInvalid answer
    × (new ≡ door.Listener old)
DoorGave file stream old asked answer room new = ⊥

-- one write to a door is one to its file or its stream; a listener takes nothing
abbrev pub DoorTook : {F L S : Type 0} → Took F → Took S → Took (HostDoor F L S)
DoorTook file stream (door.File old) bytes answer (door.File new) = file old bytes answer new
DoorTook file stream (door.Stream old) bytes answer (door.Stream new) = stream old bytes answer new
DoorTook file stream (door.Listener old) bytes answer new = IsInvalid answer
    × (new ≡ door.Listener old)
DoorTook file stream old bytes answer new = ⊥
