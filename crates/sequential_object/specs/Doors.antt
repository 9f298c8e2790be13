-- Believed: a contract of the headline stands on it.
-- Opening doors to the outside.
-- POSIX.1-2017, System Interfaces: `open`, `socket`, `bind`, `listen`, `connect`, `accept`.
use Rattle.std.specs.Prelude.{ℕ, ℤ, pos, negsuc, List, length, Bool, false, not, ◌&&◌, ◌||◌, ◌==◌}
use Rattle.std.specs.Prelude.{nat_le, nat_lt, Result, Ok, Err, if◌then◌else◌, Option, Some, None}
use Rattle.std.specs.List.{list_any}
use Rattle.std.specs.Str.{is_utf8}
use Rattle.posix_terms.specs.Calls.{can_write}
use Rattle.sequential_object.specs.Refusals.{◌>>=◌, refuse_if, some_or}
use Rattle.posix_terms.specs.declared.call.Access.{Access}
use Rattle.posix_terms.specs.declared.call.Access.TheVariants.{ReadWrite}
use Rattle.posix_terms.specs.declared.call.OpenFlags.{OpenFlags}
use Rattle.posix_terms.specs.declared.errno.Errno.{Errno}
use Rattle.posix_terms.specs.declared.errno.Errno.TheVariants.{EINVAL, EMFILE, ENAMETOOLONG, ENFILE}
use Rattle.posix_terms.specs.declared.errno.Errno.TheVariants.{ENOENT, ENOTSOCK}
use Rattle.posix_terms.specs.declared.object.End.{End}
use Rattle.sequential_object.specs.View.{View}
use Rattle.sequential_object.specs.declared.decision.Decision.{Decision}
use Rattle.sequential_object.specs.Opening.{new_descriptor}
use Rattle.posix_terms.specs.declared.limits.TheConstants.Limits as limit
use Rattle.posix_terms.specs.declared.object.End.TheVariants as part
use Rattle.posix_terms.specs.declared.object.Door.TheVariants as door
use Rattle.sequential_object.specs.declared.decision.Decision.TheVariants as decision
use Rattle.sequential_object.specs.declared.decision.Deed.TheVariants as deed

-- a path that can be handed to the host
abbrev pub host_path : List ℕ → Result (Unit {0}) Errno
host_path path = do
  _ ← refuse_if (length path == 0) ENOENT
  _ ← refuse_if (nat_lt limit.PATH_BYTES (length path)) ENAMETOOLONG
  refuse_if (list_any (λ b. b == 0) path || not (is_utf8 path)) EINVAL

-- a port from this one on
abbrev pub port_of : ℕ → ℤ → Result ℕ Errno
port_of least (pos n) = if nat_le least n && nat_le n limit.PORT then Ok n else Err EINVAL
port_of least (negsuc n) = Err EINVAL

-- opening a door: there are a free number and room for an object
abbrev pub opens : View → (blocks : Bool) → (listener : Option ℕ) → Access → (append : Bool)
    → Result Decision Errno
opens v blocks listener access append = do
  n ← some_or (v.lowest 0) EMFILE
  object ← some_or v.next ENFILE
  Ok (decision.Locks object
      (deed.Opens blocks listener (new_descriptor n object access append false)))

-- `host_open`
unfoldable pub host_open_decided : View → List ℕ → Access → OpenFlags → Result Decision Errno
host_open_decided v path access flags = do
  _ ← refuse_if (flags.truncate && not (can_write access)) EINVAL
  _ ← host_path path
  opens v false None access flags.append

-- `tcp_listen` and `tcp_connect`, at a port from this one on
unfoldable pub port_decided : View → ℕ → ℤ → Result Decision Errno
port_decided v least port = do
  _ ← port_of least port
  opens v false None ReadWrite false

-- only a listener accepts: no stream or socket, and no file, pipe or file of the host
abbrev pub must_be_listener : End → Result (Unit {0}) Errno
must_be_listener (part.Door (door.Listener port)) = Ok tt
must_be_listener (part.Door door.Stream) = Err EINVAL
must_be_listener (part.Socket side) = Err EINVAL
must_be_listener e = Err ENOTSOCK

-- `tcp_accept`
unfoldable pub tcp_accept_decided : View → ℤ → Result Decision Errno
tcp_accept_decided v descriptor = do
  at ← v.described descriptor
  _ ← must_be_listener at.«end»
  opens v (not at.nonblock) (Some at.object) ReadWrite false
