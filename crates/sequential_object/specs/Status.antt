-- Believed: a contract of the headline stands on it.
-- What a descriptor's object and flags are, and how the flags are set.
-- POSIX.1-2017, System Interfaces: `fstat`, `fcntl` with F_GETFL and F_SETFL.
use Rattle.std.specs.Prelude.{ℕ, ◌+◌, ℤ, pos, Bool, Result, Ok, if◌then◌else◌, Option, Some}
use Rattle.std.specs.Prelude.{None}
use Rattle.sequential_object.specs.Refusals.{◌>>=◌}
use Rattle.posix_terms.specs.declared.call.Access.{Access}
use Rattle.posix_terms.specs.declared.call.Access.TheVariants.{ReadOnly, WriteOnly, ReadWrite}
use Rattle.posix_terms.specs.declared.errno.Errno.{Errno}
use Rattle.posix_terms.specs.declared.object.End.{End}
use Rattle.posix_terms.specs.declared.reply.ObjectKind.{ObjectKind}
use Rattle.sequential_object.specs.View.{View}
use Rattle.sequential_object.specs.declared.decision.Decision.{Decision}
use Rattle.sequential_object.specs.declared.decision.Seen.{Seen}
use Rattle.sequential_object.specs.Deciding.{locks, tells}
use Rattle.posix_terms.specs.declared.reply.ObjectKind.TheVariants as kind
use Rattle.posix_terms.specs.declared.reply.Reply.TheVariants as reply
use Rattle.posix_terms.specs.declared.object.Door.TheVariants as door
use Rattle.posix_terms.specs.declared.object.End.TheVariants as part
use Rattle.sequential_object.specs.declared.decision.Act.TheVariants as act
use Rattle.sequential_object.specs.declared.decision.Change.TheVariants as change
use Rattle.sequential_object.specs.declared.decision.Decision.TheVariants as decision

-- what a descriptor may be used for, as the number that F_GETFL gives
abbrev pub access_number : Access → ℕ
access_number ReadOnly = 0
access_number WriteOnly = 1
access_number ReadWrite = 2

-- what the object is whose end this is, and the port of a listener; none of a file, whose length is
-- known only under its lock
abbrev pub stat_by : End → Option (ObjectKind × ℕ)
stat_by part.Only = None
stat_by part.Read = Some (kind.Pipe, 0)
stat_by part.Write = Some (kind.Pipe, 0)
stat_by (part.Socket side) = Some (kind.SocketPair, 0)
stat_by (part.Door door.HostFile) = Some (kind.HostFile, 0)
stat_by (part.Door (door.Listener port)) = Some (kind.Listener, port)
stat_by (part.Door door.Stream) = Some (kind.Stream, 0)

-- of a file, which has so many names, the length is reported by an act
abbrev pub stat_decision : Seen → ℕ → Option (ObjectKind × ℕ) → Decision
stat_decision at links None = locks at (act.Fstat links)
stat_decision at links (Some (k, number)) = tells (reply.Stat k number 0)

-- `fstat`
unfoldable pub fstat_decided : View → ℤ → Result Decision Errno
fstat_decided v descriptor = do
  at ← v.described descriptor
  Ok (stat_decision at (v.links at.object) (stat_by at.«end»))

-- an access and flags as one number: 4 for O_APPEND, 8 for O_NONBLOCK
abbrev pub status_number : Seen → ℕ
status_number at =
    access_number at.access + (if at.append then 4 else 0) + (if at.nonblock then 8 else 0)

-- `fcntl` with F_GETFL
unfoldable pub getfl_decided : View → ℤ → Result Decision Errno
getfl_decided v descriptor = do
  at ← v.described descriptor
  Ok (tells (reply.Number (pos (status_number at))))

-- `fcntl` with F_SETFL
unfoldable pub setfl_decided : View → ℤ → Bool → Bool → Result Decision Errno
setfl_decided v descriptor append nonblock = do
  at ← v.described descriptor
  Ok (decision.Replies reply.Done (change.SetFlags at.key append nonblock))
