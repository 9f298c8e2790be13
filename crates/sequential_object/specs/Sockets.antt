-- Believed: a contract of the headline stands on it.
-- Making pipes and pairs of sockets, and shutting a socket.
-- POSIX.1-2017, System Interfaces: `pipe`, `socketpair`, `shutdown`.
use Rattle.std.specs.Prelude.{◌+◌, ℤ, false, Result, Ok, Err}
use Rattle.sequential_object.specs.Refusals.{◌>>=◌, some_or}
use Rattle.posix_terms.specs.declared.call.ShutdownHow.{ShutdownHow}
use Rattle.posix_terms.specs.declared.errno.Errno.{Errno}
use Rattle.posix_terms.specs.declared.errno.Errno.TheVariants.{EINVAL, EMFILE, ENFILE, ENOTSOCK}
use Rattle.posix_terms.specs.declared.object.End.{End}
use Rattle.sequential_object.specs.View.{View}
use Rattle.sequential_object.specs.declared.decision.Decision.{Decision}
use Rattle.sequential_object.specs.declared.decision.NewEnds.{NewEnds}
use Rattle.sequential_object.specs.declared.decision.Seen.{Seen}
use Rattle.sequential_object.specs.Deciding.{locks}
use Rattle.posix_terms.specs.declared.object.Door.TheVariants as door
use Rattle.posix_terms.specs.declared.object.End.TheVariants as part
use Rattle.sequential_object.specs.declared.decision.Act.TheVariants as act
use Rattle.sequential_object.specs.declared.decision.Change.TheVariants as change
use Rattle.sequential_object.specs.declared.decision.Decision.TheVariants as decision
use Rattle.sequential_object.specs.declared.decision.Deed.TheVariants as deed

-- the two least numbers that are not open, and the object
abbrev pub new_ends : View → Result NewEnds Errno
new_ends v = do
  first ← some_or (v.lowest 0) EMFILE
  second ← some_or (v.lowest (first + 1)) EMFILE
  object ← some_or v.next ENFILE
  Ok (record { first = first; second = second; object = object })

-- `pipe`: the lower number reads, the other one writes
unfoldable pub pipe_decided : View → Result Decision Errno
pipe_decided v = do
  new ← new_ends v
  Ok (decision.Locks new.object (deed.Acts (act.Pipe new.first new.second) (change.MakePipe new)))

-- `socketpair`
unfoldable pub socketpair_decided : View → Result Decision Errno
socketpair_decided v = do
  new ← new_ends v
  Ok (decision.Locks new.object
      (deed.Acts (act.Socketpair new.first new.second) (change.MakeSockets new)))

-- a socket in memory or a stream outside; not a listener, a file, a pipe or a file of the host
abbrev pub shuts : Seen → ShutdownHow → End → Result Decision Errno
shuts at how (part.Socket side) = Ok (locks at (act.Shutdown side how))
shuts at how (part.Door door.Stream) = Ok (decision.Locks at.object (deed.Asks false))
shuts at how (part.Door (door.Listener port)) = Err EINVAL
shuts at how e = Err ENOTSOCK

-- `shutdown`; a socket of a pair may be shut already, and its peer closed
unfoldable pub shutdown_decided : View → ℤ → ShutdownHow → Result Decision Errno
shutdown_decided v descriptor how = do
  at ← v.described descriptor
  shuts at how at.«end»
