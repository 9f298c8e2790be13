-- Believed: a contract of the headline stands on it.
-- What an act does with the object that is locked for it.
use Rattle.std.specs.Prelude.{ℕ, zero, suc, ◌+◌, ◌^◌, ℤ, pos, negsuc, ◌+ℤ◌, Bool, List, [], length}
use Rattle.std.specs.Prelude.{drop, ◌==◌, nat_le, nat_lt, Option, Some, None, Result, Ok, Err}
use Rattle.std.specs.Prelude.{if◌then◌else◌}
use Rattle.posix_terms.specs.declared.carried.Moved.{Moved}
use Rattle.posix_terms.specs.Calls.{Call}
use Rattle.sequential_object.specs.Descriptors.{has_end}
use Rattle.sequential_object.specs.Effects.{nothing_moved}
use Rattle.posix_terms.specs.Ends.{side_of, peer_of}
use Rattle.sequential_object.specs.Files.{bytes_at, resized, written}
use Rattle.sequential_object.specs.Object.{Content, File, Pipe, Pair, DoorTo}
use Rattle.sequential_object.specs.Streams.{Reading, Reads, Ends, NothingYet, Writing, Writes}
use Rattle.sequential_object.specs.Streams.{Breaks, NoRoom, bytes_put, pair_read, pair_write}
use Rattle.sequential_object.specs.Streams.{pipe_write, stream_read, with_waiting, shut}
use Rattle.posix_terms.specs.declared.call.Whence.{Whence}
use Rattle.posix_terms.specs.declared.errno.Errno.{Errno}
use Rattle.posix_terms.specs.declared.errno.Errno.TheVariants.{EAGAIN, EINVAL, EOVERFLOW, EPIPE}
use Rattle.posix_terms.specs.declared.reply.Reply.{Reply}
use Rattle.posix_terms.specs.declared.object.End.{End}
use Rattle.sequential_object.specs.declared.decision.Act.{Act}
use Rattle.sequential_object.specs.declared.decision.Seen.{Seen}
use Rattle.posix_terms.specs.declared.call.Whence.TheVariants as whence
use Rattle.posix_terms.specs.declared.limits.TheConstants.Limits as limit
use Rattle.posix_terms.specs.declared.object.End.TheVariants as part
use Rattle.posix_terms.specs.declared.reply.Reply.TheVariants as reply
use Rattle.posix_terms.specs.declared.call.Call.TheVariants as call
use Rattle.posix_terms.specs.declared.reply.ObjectKind.TheVariants as kind
use Rattle.sequential_object.specs.declared.decision.Act.TheVariants as act

-- so many bytes moved so far, the first of them by the description of this birth
abbrev pub moved_by : ℕ → ℕ → Moved
moved_by birth zero = nothing_moved
moved_by birth (suc n) = record { bytes = suc n; from = Some birth }

-- an offset is a number below 2^63
abbrev pub offset_of : ℤ → Result ℕ Errno
offset_of (pos n) = if nat_lt n (2 ^ 63) then Ok n else Err EOVERFLOW
offset_of (negsuc n) = Err EINVAL

-- where `lseek` counts from: the start of a file, the offset, or the end of the file
abbrev pub base_of : Whence → ℕ → ℕ → ℕ
base_of whence.Set offset size = 0
base_of whence.Current offset size = offset
base_of whence.End offset size = size

-- it is done, or cannot go on yet, and has moved so much
pub data Ending : Type 0 where
  Replies : (reply : Reply) → Ending
  Blocks : (moved : Moved) → Ending

-- how an act ends, and the new content of its object and the new offset of its description; none:
-- it stays
pub record Acted : Type 0 where
  pub ending : Ending
  pub content : Option Content
  pub offset : Option ℕ

-- an act that ends so, and leaves content and offset as they were
abbrev pub concludes : Ending → Acted
concludes ending = record { ending = ending; content = None; offset = None }

-- an act that is done with this reply, and leaves content and offset as they were
abbrev pub replies : Reply → Acted
replies r = concludes (Replies r)

-- an act that ends so and leaves this in its object, and the offset as it was
abbrev pub holds : Ending → Content → Acted
holds ending content = record { ending = ending; content = Some content; offset = None }

-- what cannot go on is blocked, or fails with O_NONBLOCK
abbrev pub blocked : Seen → Acted
blocked at = if at.nonblock then replies (reply.Fail EAGAIN) else concludes (Blocks nothing_moved)

-- ## Files

-- a read from the offset on
abbrev pub read_file : List ℕ → ℕ → ℕ → Acted
read_file file offset count =
    let bytes = bytes_at file offset count in
    record {
      ending = Replies (reply.Data bytes);
      content = None;
      offset = Some (offset + length bytes);
    }

-- what `written` gives, and the new offset by the count
abbrev pub wrote : Result (List ℕ × ℕ) Errno → (ℕ → Option ℕ) → Acted
wrote (Ok w) to = record {
  ending = Replies (reply.Count w.1);
  content = Some (File w.0);
  offset = to w.1;
}
wrote (Err e) to = replies (reply.Fail e)

-- of no bytes it does nothing; with O_APPEND it starts at the end
abbrev pub write_file : Seen → List ℕ → List ℕ → ℕ → Acted
write_file to bytes file offset =
    let start = if to.append then length file else offset in
    if length bytes == 0 then replies (reply.Count 0) else
    wrote (written file start bytes) (λ count. Some (start + count))

-- a write at a position leaves the offset
abbrev pub write_at : List ℕ → List ℕ → ℕ → Acted
write_at bytes file start =
    if length bytes == 0 then replies (reply.Count 0) else
    wrote (written file start bytes) (λ count. None)

-- an `lseek` that sets this offset, or is refused
abbrev pub sought : Result ℕ Errno → Acted
sought (Ok to) = record {
  ending = Replies (reply.Number (pos to));
  content = None;
  offset = Some to;
}
sought (Err e) = replies (reply.Fail e)

-- ## Pipes and pairs

-- a read of a stream; with these bytes left its object holds `content left`
abbrev pub has_read : Seen → (List ℕ → Content) → Reading → Acted
has_read from content (Reads bytes left) = holds (Replies (reply.Data bytes)) (content left)
has_read from content Ends = replies (reply.Data [])
has_read from content NothingYet = blocked from

-- a write of so many bytes to a stream
abbrev pub has_written : Seen → (List ℕ → Content) → ℕ → Writing → Acted
has_written to content count (Writes left) = holds (Replies (reply.Count count)) (content left)
has_written to content count Breaks = replies (reply.Fail EPIPE)
has_written to content count NoRoom = blocked to

-- a write of a pipe that cannot go on after so many bytes is blocked, or ends with them
abbrev pub blocked_after : Seen → ℕ → Ending
blocked_after to total =
    if to.nonblock then Replies (reply.Count total) else Blocks (moved_by to.birth total)

-- the pipe takes so many bytes now, or none; so many of all went before
abbrev pub pipe_written : Seen → (all before now : ℕ) → Writing → Acted
pipe_written to all before now (Writes left) =
    let total = before + now in
    let ending =
    if nat_le all total then Replies (reply.Count total) else blocked_after to total in
    holds ending (Pipe left)
pipe_written to all before now Breaks =
    replies (if before == 0 then reply.Fail EPIPE else reply.Count before)
pipe_written to all before now NoRoom =
    if before == 0 then blocked to else concludes (blocked_after to before)

-- the bytes go on where they blocked; of at most PIPE_BUF bytes all go at once
abbrev pub write_pipe : Seen → List ℕ → ℕ → List ℕ → Bool → Acted
write_pipe to bytes before waiting readers =
    let rest = drop before bytes in
    let whole = nat_le (length bytes) limit.PIPE_BUF in
    let now = length (bytes_put limit.PIPE_BYTES waiting rest whole) in
    pipe_written to (length bytes) before now (pipe_write waiting rest whole readers)

-- ## By what the object holds

-- which ends of it are open is known too
abbrev pub read_acted : (End → Bool) → Seen → ℕ → Content → ℕ → Acted
read_acted has_end from count (File file) offset = read_file file offset count
read_acted has_end from count (Pipe waiting) offset =
    has_read from Pipe (stream_read waiting count (has_end part.Write))
read_acted has_end from count (Pair p) offset =
    let side = side_of from.«end» in
    has_read from (λ left. Pair (with_waiting p side left))
    (pair_read p side count (has_end (part.Socket (peer_of side))))
-- never met: a door is read outside
read_acted has_end from count (DoorTo door) offset = replies reply.Done

-- a write, of which so many bytes moved before
abbrev pub write_acted : (End → Bool) → Seen → List ℕ → ℕ → Content → ℕ → Acted
write_acted has_end to bytes before (File file) offset = write_file to bytes file offset
write_acted has_end to bytes before (Pipe waiting) offset =
    write_pipe to bytes before waiting (has_end part.Read)
write_acted has_end to bytes before (Pair p) offset =
    let side = side_of to.«end» in
    has_written to (λ left. Pair (with_waiting p (peer_of side) left)) (length bytes)
    (pair_write p side bytes (has_end (part.Socket (peer_of side))))
-- never met: a door is written outside
write_acted has_end to bytes before (DoorTo door) offset = replies reply.Done

-- ## All acts

-- the reply of a call that lets an object go
abbrev pub released_reply : Call → Reply
released_reply (call.Dup2 descriptor target) = reply.Number target
released_reply c = reply.Done

-- what an act does for a call, with an object that holds this and at this offset
abbrev pub acted : (End → Bool) → Act → Call → Content → ℕ → Acted
acted has_end (act.Open n cut) c content offset =
    if cut then holds (Replies (reply.Number (pos n))) (File []) else
    replies (reply.Number (pos n))
acted has_end (act.Create n) c content offset = replies (reply.Number (pos n))
acted has_end act.Release c content offset = replies (released_reply c)
acted has_end (act.Read from count) c content offset =
    read_acted has_end from count content offset
acted has_end (act.Write to before) (call.Write descriptor bytes) content offset =
    write_acted has_end to bytes before content offset
acted has_end (act.Pread count position) c (File file) offset =
    replies (reply.Data (bytes_at file position count))
acted has_end (act.Pwrite start) (call.Pwrite descriptor bytes position) (File file) offset =
    write_at bytes file start
acted has_end (act.Lseek at) (call.Lseek descriptor to whence) (File file) offset =
    sought (offset_of (pos (base_of whence offset (length file)) +ℤ to))
acted has_end (act.Ftruncate size) c (File file) offset =
    holds (Replies reply.Done) (File (resized file size))
acted has_end (act.Fstat links) c (File file) offset =
    replies (reply.Stat kind.File (length file) links)
acted has_end (act.Pipe first second) c content offset =
    replies (reply.Pair (pos first) (pos second))
acted has_end (act.Socketpair first second) c content offset =
    replies (reply.Pair (pos first) (pos second))
acted has_end (act.Shutdown side how) c (Pair p) offset =
    holds (Replies reply.Done) (Pair (shut p side how))
-- never met: an act is decided of an object that holds what it needs, and of its own call
acted has_end _ c content offset = replies reply.Done
