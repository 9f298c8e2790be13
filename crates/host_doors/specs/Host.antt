-- Internal: no contract of the headline or of a command stands on it.
-- Doors to the host.
use Rattle.std.specs.Prelude.{◌≡◌, true, Result, Ok, Err}
use Rattle.std.specs.declared.io.ErrorKind.{ErrorKind}
use Rattle.std.specs.declared.io.ErrorKind.TheVariants as kind
use Rattle.posix_terms.specs.Outcomes.{fits}
use Rattle.posix_terms.specs.declared.outcome.Outcome.{Outcome}
use Rattle.posix_terms.specs.declared.errno.Errno.{Errno}
use Rattle.posix_terms.specs.declared.errno.Errno.TheVariants as errno
use Rattle.posix_terms.specs.declared.request.Request.{Request}
use Rattle.host_doors.specs.declared.stop.DoorStop.{DoorStop}
use Rattle.host_doors.specs.declared.stop.DoorStop.TheVariants as stop
use Rattle.host_doors.specs.declared.counts.Counts.{Counts}
use Rattle.host_doors.specs.Counting.{counted}

-- the host may give any outcome that answers the request,
-- which is counted; without memory it gives none
abbrev pub GivesAny : Request → Counts → Counts → Result Outcome DoorStop → Type 0
GivesAny request old new (Ok o) = (fits request.kind request.asked o ≡ true) × (new ≡ counted old o)
GivesAny request old new (Err s) = (s ≡ stop.Memory) × (new ≡ old)

-- the error code for a kind of failure: the code of that name, and EIO for every kind that has none
abbrev pub error_of : ErrorKind → Errno
error_of kind.NotFound = errno.ENOENT
error_of kind.PermissionDenied = errno.EACCES
error_of kind.AlreadyExists = errno.EEXIST
error_of kind.WouldBlock = errno.EAGAIN
error_of kind.Interrupted = errno.EINTR
error_of kind.BrokenPipe = errno.EPIPE
error_of kind.ConnectionRefused = errno.ECONNREFUSED
error_of kind.ConnectionReset = errno.ECONNRESET
error_of kind.AddrInUse = errno.EADDRINUSE
error_of kind.TimedOut = errno.ETIMEDOUT
error_of kind.InvalidInput = errno.EINVAL
error_of _ = errno.EIO
