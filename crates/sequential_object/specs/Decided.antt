-- Believed: a contract of the headline stands on it.
-- What is decided of each call, by what it may look at: its refusals first and in their order, then
-- the reply of the table, or the object to lock and the act there, or the request to the outside;
-- and what is changed. A `write` also looks at what it moved before. What an object is, is seen
-- from the end that a description is of: that of a door has its kind and its port.
-- POSIX.1-2017, System Interfaces; choices and departures are in docs/profile.md.
use Rattle.std.specs.Prelude.{length, Result}
use Rattle.posix_terms.specs.declared.carried.Moved.{Moved}
use Rattle.posix_terms.specs.Calls.{Call}
use Rattle.posix_terms.specs.declared.errno.Errno.{Errno}
use Rattle.sequential_object.specs.View.{View}
use Rattle.sequential_object.specs.declared.decision.Decision.{Decision}
use Rattle.sequential_object.specs.Opening.{close_decided, open_decided}
use Rattle.sequential_object.specs.Doors.{host_open_decided, port_decided, tcp_accept_decided}
use Rattle.sequential_object.specs.Duplicates.{dup2_decided, dup_decided, dup_from_decided}
use Rattle.sequential_object.specs.Names.{link_decided, mkdir_decided, rename_decided}
use Rattle.sequential_object.specs.Names.{rmdir_decided, unlink_decided}
use Rattle.sequential_object.specs.Sockets.{pipe_decided, shutdown_decided, socketpair_decided}
use Rattle.sequential_object.specs.Status.{fstat_decided, getfl_decided, setfl_decided}
use Rattle.sequential_object.specs.Transfers.{ftruncate_decided, lseek_decided, pread_decided}
use Rattle.sequential_object.specs.Transfers.{pwrite_decided, read_decided, write_decided}
use Rattle.posix_terms.specs.declared.call.Call.TheVariants as call

-- what is decided of a call that moved so much before, or why it is refused
abbrev pub decided : View → Call → Moved → Result Decision Errno
decided v (call.Open path access flags) moved = open_decided v path access flags
decided v (call.Close descriptor) moved = close_decided v descriptor
decided v (call.Read descriptor count) moved = read_decided v descriptor count
decided v (call.Write descriptor bytes) moved = write_decided v descriptor (length bytes) moved
decided v (call.Pread descriptor count position) moved = pread_decided v descriptor count position
decided v (call.Pwrite descriptor bytes position) moved =
    pwrite_decided v descriptor (length bytes) position
decided v (call.Lseek descriptor offset whence) moved = lseek_decided v descriptor offset whence
decided v (call.Ftruncate descriptor size) moved = ftruncate_decided v descriptor size
decided v (call.Fstat descriptor) moved = fstat_decided v descriptor
decided v (call.Dup descriptor) moved = dup_decided v descriptor
decided v (call.DupFrom descriptor least) moved = dup_from_decided v descriptor least
decided v (call.Dup2 descriptor target) moved = dup2_decided v descriptor target
decided v (call.Getfl descriptor) moved = getfl_decided v descriptor
decided v (call.Setfl descriptor append nonblock) moved = setfl_decided v descriptor append nonblock
decided v (call.Link old_path new_path) moved = link_decided v old_path new_path
decided v (call.Unlink path) moved = unlink_decided v path
decided v (call.Rename old_path new_path) moved = rename_decided v old_path new_path
decided v (call.Mkdir path) moved = mkdir_decided v path
decided v (call.Rmdir path) moved = rmdir_decided v path
decided v call.Pipe moved = pipe_decided v
decided v call.Socketpair moved = socketpair_decided v
decided v (call.Shutdown descriptor how) moved = shutdown_decided v descriptor how
decided v (call.HostOpen path access flags) moved = host_open_decided v path access flags
decided v (call.TcpListen port) moved = port_decided v 0 port
decided v (call.TcpConnect port) moved = port_decided v 1 port
decided v (call.TcpAccept descriptor) moved = tcp_accept_decided v descriptor
