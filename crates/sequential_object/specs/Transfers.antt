-- Believed: a contract of the headline stands on it.
-- Reading, writing, moving the offset and cutting.
-- POSIX.1-2017, System Interfaces: `read`, `pread`, `write`, `pwrite`, `lseek`, `ftruncate`.
use Rattle.std.specs.Prelude.{ℕ, ℤ, pos, negsuc, Bool, false, [], not, ◌==◌, nat_lt, Option}
use Rattle.std.specs.Prelude.{Some, None, Result, Ok, Err, if◌then◌else◌, true, ◌&&◌}
use Rattle.posix_terms.specs.declared.carried.Moved.{Moved}
use Rattle.posix_terms.specs.Calls.{can_read, can_write}
use Rattle.sequential_object.specs.Refusals.{◌>>=◌, refuse_if, count_of, position_of}
use Rattle.posix_terms.specs.declared.call.Whence.{Whence}
use Rattle.posix_terms.specs.declared.errno.Errno.{Errno}
use Rattle.posix_terms.specs.declared.errno.Errno.TheVariants.{EBADF, EINVAL, ESPIPE, EFBIG}
use Rattle.posix_terms.specs.declared.reply.Reply.{Reply}
use Rattle.posix_terms.specs.declared.carried.Moved.{Moved}
use Rattle.posix_terms.specs.declared.object.End.{End}
use Rattle.sequential_object.specs.View.{View}
use Rattle.sequential_object.specs.declared.decision.Act.{Act}
use Rattle.sequential_object.specs.declared.decision.Decision.{Decision}
use Rattle.sequential_object.specs.declared.decision.Seen.{Seen}
use Rattle.sequential_object.specs.Deciding.{acts_or_asks, is_file, locks, must_be_file, tells}
use Rattle.posix_terms.specs.declared.call.Whence.TheVariants as whence
use Rattle.posix_terms.specs.declared.limits.TheConstants.Limits as limit
use Rattle.posix_terms.specs.declared.object.End.TheVariants as part
use Rattle.posix_terms.specs.declared.reply.Reply.TheVariants as reply
use Rattle.posix_terms.specs.declared.object.Door.TheVariants as door
use Rattle.sequential_object.specs.declared.decision.Act.TheVariants as act

-- whether the first byte went by the description of this birth
abbrev pub is_from : Moved → ℕ → Bool
is_from moved birth = is_same moved.from
  where
    is_same : Option ℕ → Bool
    is_same (Some from) = from == birth
    is_same None = false

-- from the start, an offset in a file of the host is not negative
abbrev pub host_offset : ℤ → Whence → Result (Unit {0}) Errno
host_offset (negsuc n) whence.Set = Err EINVAL
host_offset offset from = Ok tt

-- a length that a file can have
abbrev pub size_of : ℤ → Result ℕ Errno
size_of (pos n) = if nat_lt limit.FILE_BYTES n then Err EFBIG else Ok n
size_of (negsuc n) = Err EINVAL

-- a listener takes part in no transfer
abbrev pub not_listener : End → Result (Unit {0}) Errno
not_listener (part.Door (door.Listener port)) = Err EINVAL
not_listener e = Ok tt

-- a read or a write of so many bytes; one of no bytes, unless of a file, is answered by the table
abbrev pub moves : Seen → ℕ → Reply → Act → Decision
moves at count empty does =
    if (count == 0) && not (is_file at) then tells empty else
    acts_or_asks at (not at.nonblock) does

-- `read`
unfoldable pub read_decided : View → ℤ → ℤ → Result Decision Errno
read_decided v descriptor count = do
  at ← v.described descriptor
  _ ← not_listener at.«end»
  _ ← refuse_if (not (can_read at.access)) EBADF
  n ← count_of count
  Ok (moves at n (reply.Data []) (act.Read at n))

-- `write` of so many bytes, at the first of its turns
abbrev pub first_write : View → ℤ → ℕ → Result Decision Errno
first_write v descriptor count = do
  at ← v.described descriptor
  _ ← not_listener at.«end»
  _ ← refuse_if (not (can_write at.access)) EBADF
  _ ← refuse_if (nat_lt limit.COUNT count) EINVAL
  Ok (moves at count (reply.Count 0) (act.Write at 0))

-- an end of a pipe: only a write of a pipe is blocked once it moved bytes, so the description that
-- such a write began with is always of one
abbrev pub is_pipe : End → Bool
is_pipe part.Read = true
is_pipe part.Write = true
is_pipe e = false

-- one that moved bytes goes on at the pipe of its description, or reports them where its descriptor
-- is closed or refers to another one
abbrev pub goes_on : Moved → Result Seen Errno → Decision
goes_on moved (Ok at) =
    if is_from moved at.birth && is_pipe at.«end» then locks at (act.Write at moved.bytes) else
    tells (reply.Count moved.bytes)
goes_on moved (Err e) = tells (reply.Count moved.bytes)

-- `write`; one that moved bytes before is refused no more
unfoldable pub write_decided : View → ℤ → ℕ → Moved → Result Decision Errno
write_decided v descriptor count moved =
    if moved.bytes == 0 then first_write v descriptor count else
    Ok (goes_on moved (v.described descriptor))

-- `pread`: the offset stays
unfoldable pub pread_decided : View → ℤ → ℤ → ℤ → Result Decision Errno
pread_decided v descriptor count position = do
  at ← v.described descriptor
  _ ← must_be_file at ESPIPE
  _ ← refuse_if (not (can_read at.access)) EBADF
  n ← count_of count
  start ← position_of position
  Ok (locks at (act.Pread n start))

-- `pwrite`: whatever the offset and O_APPEND are
unfoldable pub pwrite_decided : View → ℤ → ℕ → ℤ → Result Decision Errno
pwrite_decided v descriptor count position = do
  at ← v.described descriptor
  _ ← must_be_file at ESPIPE
  _ ← refuse_if (not (can_write at.access)) EBADF
  _ ← refuse_if (nat_lt limit.COUNT count) EINVAL
  start ← position_of position
  Ok (locks at (act.Pwrite start))

-- an object with an offset: no pipe, pair, listener or stream
abbrev pub seekable : End → ℤ → Whence → Result (Unit {0}) Errno
seekable part.Only offset whence = Ok tt
seekable (part.Door door.HostFile) offset whence = host_offset offset whence
seekable e offset whence = Err ESPIPE

-- `lseek`
unfoldable pub lseek_decided : View → ℤ → ℤ → Whence → Result Decision Errno
lseek_decided v descriptor offset whence = do
  at ← v.described descriptor
  _ ← seekable at.«end» offset whence
  Ok (acts_or_asks at false (act.Lseek at))

-- `ftruncate`; the offset stays
unfoldable pub ftruncate_decided : View → ℤ → ℤ → Result Decision Errno
ftruncate_decided v descriptor size = do
  at ← v.described descriptor
  _ ← refuse_if (not (can_write at.access)) EINVAL
  _ ← must_be_file at EINVAL
  n ← size_of size
  Ok (locks at (act.Ftruncate n))
