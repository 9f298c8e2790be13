-- Believed: a contract of the headline stands on it.
-- What an opening gives beside its outcome.
use Rattle.std.specs.Prelude.{◌≡◌, Option, None, IsSome, Result, Ok, Err}
use Rattle.posix_terms.specs.declared.outcome.Outcome.{Outcome}
use Rattle.posix_terms.specs.declared.outcome.Outcome.TheVariants as outcome
use Rattle.host_doors.specs.declared.opened.Opened.{Opened}
use Rattle.host_doors.specs.declared.stop.DoorStop.{DoorStop}

-- the outcome of an opening, without its door
abbrev pub outcome_of : {D : Type 0} → Result (Opened D) DoorStop → Result Outcome DoorStop
outcome_of (Ok o) = Ok o.outcome
outcome_of (Err s) = Err s

-- a door comes with a success and with nothing else
abbrev pub HasDoor : {D : Type 0} → Outcome → Option D → Type 0
HasDoor (outcome.Ok value bytes) door = IsSome door
HasDoor (outcome.Fail error) door = door ≡ None
