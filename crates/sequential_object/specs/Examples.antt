-- Internal: no contract of the headline or of a command stands on it.
-- Examples worked out by hand from the rules: one thread's calls, each with its reply.
use Rattle.std.specs.Prelude.{◌≡◌, ℕ, pos, negsuc, List, [], ◌∷◌, map, true, false, codes, None}
use Rattle.std.specs.FinMap as fin
use Rattle.sequential_object.specs.Object.{State, empty_state}
use Rattle.sequential_object.specs.Step.{Carried, nothing_carried, nothing_moved, step}
use Rattle.posix_terms.specs.declared.call.Access.TheVariants as access
use Rattle.posix_terms.specs.Calls.{Call}
use Rattle.posix_terms.specs.declared.call.Call.TheVariants as call
use Rattle.posix_terms.specs.declared.call.OpenFlags.{OpenFlags}
use Rattle.posix_terms.specs.declared.call.ShutdownHow.TheVariants as how
use Rattle.posix_terms.specs.declared.call.Whence.TheVariants as whence
use Rattle.posix_terms.specs.declared.errno.Errno.TheVariants.{EAGAIN, EBADF, EINVAL, EOVERFLOW}
use Rattle.posix_terms.specs.declared.errno.Errno.TheVariants.{EPIPE, ENOTSOCK, ESPIPE, EFBIG}
use Rattle.posix_terms.specs.declared.errno.Errno.TheVariants.{ENOENT, EEXIST, ENOTDIR, EISDIR}
use Rattle.posix_terms.specs.declared.errno.Errno.TheVariants.{ENOTEMPTY, EPERM, ENAMETOOLONG}
use Rattle.posix_terms.specs.declared.errno.Errno.TheVariants.{EBUSY}
use Rattle.posix_terms.specs.declared.reply.Answer.{Answer}
use Rattle.posix_terms.specs.declared.reply.Answer.TheVariants as answer
use Rattle.posix_terms.specs.declared.reply.ObjectKind.TheVariants as kind
use Rattle.posix_terms.specs.declared.reply.Reply.{Reply}
use Rattle.posix_terms.specs.declared.reply.Reply.TheVariants as reply
use Rattle.posix_terms.specs.declared.transcript.Settings.{Settings}

-- how calls made one after another are answered
abbrev pub answers_from : Settings → State → List Call → List Answer
answers_from settings s [] = []
answers_from settings s (c ∷ calls) =
    let stepped = step settings s c None nothing_carried in
    stepped.answer ∷ answers_from settings stepped.after calls

-- from the empty state the calls are answered by these replies
abbrev pub Replies : List (Call × Reply) → Type 0
Replies rows = (settings : Settings)
    → answers_from settings empty_state (map (λ (row : Call × Reply). row.0) rows)
    ≡ map (λ (row : Call × Reply). answer.Reply row.1) rows

-- the state that calls made one after another leave
abbrev pub state_after : Settings → State → List Call → State
state_after settings s [] = s
state_after settings s (c ∷ calls) =
    state_after settings (step settings s c None nothing_carried).after calls

-- from the empty state these calls leave so many objects
abbrev pub Leaves : ℕ → List (Call × Reply) → Type 0
Leaves n rows = (settings : Settings)
    → fin.len (state_after settings empty_state (map (λ (row : Call × Reply). row.0) rows)).objects
    ≡ n

-- `open` without flags
abbrev pub plainly : OpenFlags
plainly = record {
  create = false;
  exclusive = false;
  truncate = false;
  append = false;
  nonblock = false;
}

-- `open` with O_CREAT alone
abbrev pub creating : OpenFlags
creating = record plainly { create = true }

-- `open` with O_CREAT and O_APPEND
abbrev pub appending : OpenFlags
appending = record creating { append = true }

-- bytes that were never written read as 0
abbrev pub gap_reads_zero : List (Call × Reply)
gap_reads_zero =
    (call.Open (codes "/a") access.ReadWrite creating, reply.Number (pos 0))
    ∷ (call.Lseek (pos 0) (pos 10) whence.Set, reply.Number (pos 10))
    ∷ (call.Fstat (pos 0), reply.Stat kind.File 0 1)
    ∷ (call.Write (pos 0) (255 ∷ []), reply.Count 1)
    ∷ (
      call.Pread (pos 0) (pos 11) (pos 0),
      reply.Data
          (0 ∷ 0 ∷ 0 ∷ 0 ∷ 0 ∷ 0 ∷ 0 ∷ 0 ∷ 0 ∷ 0 ∷ 255 ∷ []),
    )
    ∷ []

-- `dup2` looks at its source first, and of one descriptor alone it does nothing
abbrev pub dup2_from_nothing : List (Call × Reply)
dup2_from_nothing =
    (call.Open (codes "/a") access.ReadWrite creating, reply.Number (pos 0))
    ∷ (call.Write (pos 0) (codes "a"), reply.Count 1)
    ∷ (call.Dup2 (pos 5) (pos 0), reply.Fail EBADF)
    ∷ (call.Pread (pos 0) (pos 1) (pos 0), reply.Data (codes "a"))
    ∷ (call.Dup2 (pos 0) (pos 0), reply.Number (pos 0))
    ∷ []

-- descriptors that share a description share its offset
abbrev pub shared_offset : List (Call × Reply)
shared_offset =
    (call.Open (codes "/a") access.ReadWrite creating, reply.Number (pos 0))
    ∷ (call.Dup (pos 0), reply.Number (pos 1))
    ∷ (call.Write (pos 0) (codes "ab"), reply.Count 2)
    ∷ (call.Lseek (pos 1) (pos 0) whence.Current, reply.Number (pos 2))
    ∷ (call.DupFrom (pos 0) (pos 5), reply.Number (pos 5))
    ∷ (call.DupFrom (pos 0) (pos 32), reply.Fail EINVAL)
    ∷ (call.Read (pos 0) (pos 40000), reply.Fail EINVAL)
    ∷ []

-- a file without a name stays as long as it is open
abbrev pub unlinked_but_open : List (Call × Reply)
unlinked_but_open =
    (call.Open (codes "/a") access.ReadWrite creating, reply.Number (pos 0))
    ∷ (call.Write (pos 0) (codes "ab"), reply.Count 2)
    ∷ (call.Unlink (codes "/a"), reply.Done)
    ∷ (call.Fstat (pos 0), reply.Stat kind.File 2 0)
    ∷ (call.Pread (pos 0) (pos 2) (pos 0), reply.Data (codes "ab"))
    ∷ (call.Close (pos 0), reply.Done)
    ∷ (call.Open (codes "/a") access.ReadOnly plainly, reply.Fail ENOENT)
    ∷ []

-- directories, and calls that they refuse
abbrev pub directory_refusals : List (Call × Reply)
directory_refusals =
    (call.Mkdir (codes "/d"), reply.Done)
    ∷ (call.Mkdir (codes "/d"), reply.Fail EEXIST)
    ∷ (call.Open (codes "/d") access.ReadOnly plainly, reply.Fail EISDIR)
    ∷ (call.Open (codes "/d/x") access.ReadWrite creating, reply.Number (pos 0))
    ∷ (call.Open (codes "/d/x/y") access.ReadOnly plainly, reply.Fail ENOTDIR)
    ∷ (call.Rmdir (codes "/d"), reply.Fail ENOTEMPTY)
    ∷ (call.Unlink (codes "/d"), reply.Fail EPERM)
    ∷ (call.Rmdir (codes "/"), reply.Fail EBUSY)
    ∷ (call.Link (codes "/d/x") (codes "/y"), reply.Done)
    ∷ (call.Unlink (codes "/d/x"), reply.Done)
    ∷ (call.Rmdir (codes "/d"), reply.Done)
    ∷ (call.Fstat (pos 0), reply.Stat kind.File 0 1)
    ∷ (call.Open (codes "/abcdefghijklmno") access.ReadOnly plainly, reply.Fail ENAMETOOLONG)
    ∷ (call.Open [] access.ReadOnly plainly, reply.Fail ENOENT)
    ∷ []

-- a file takes the name of another, which stays while it is open; two names of one file both stay
abbrev pub renamed_files : List (Call × Reply)
renamed_files =
    (call.Open (codes "/a") access.ReadWrite creating, reply.Number (pos 0))
    ∷ (call.Write (pos 0) (codes "aa"), reply.Count 2)
    ∷ (call.Open (codes "/b") access.ReadWrite creating, reply.Number (pos 1))
    ∷ (call.Write (pos 1) (codes "b"), reply.Count 1)
    ∷ (call.Rename (codes "/a") (codes "/b"), reply.Done)
    ∷ (call.Fstat (pos 1), reply.Stat kind.File 1 0)
    ∷ (call.Pread (pos 1) (pos 1) (pos 0), reply.Data (codes "b"))
    ∷ (call.Open (codes "/a") access.ReadOnly plainly, reply.Fail ENOENT)
    ∷ (call.Open (codes "/b") access.ReadOnly plainly, reply.Number (pos 2))
    ∷ (call.Read (pos 2) (pos 9), reply.Data (codes "aa"))
    ∷ (call.Link (codes "/b") (codes "/c"), reply.Done)
    ∷ (call.Rename (codes "/b") (codes "/c"), reply.Done)
    ∷ (call.Fstat (pos 0), reply.Stat kind.File 2 2)
    ∷ (call.Mkdir (codes "/d"), reply.Done)
    ∷ (call.Rename (codes "/d") (codes "/e"), reply.Fail EINVAL)
    ∷ (call.Rename (codes "/c") (codes "/d"), reply.Fail EISDIR)
    ∷ (call.Rename (codes "/x") (codes "/c"), reply.Fail ENOENT)
    ∷ []

-- a write with O_APPEND goes to the end, wherever the offset is, and leaves the offset after it
abbrev pub appended_at_the_end : List (Call × Reply)
appended_at_the_end =
    (call.Open (codes "/a") access.ReadWrite appending, reply.Number (pos 0))
    ∷ (call.Write (pos 0) (codes "ab"), reply.Count 2)
    ∷ (call.Lseek (pos 0) (pos 0) whence.Set, reply.Number (pos 0))
    ∷ (call.Write (pos 0) (codes "c"), reply.Count 1)
    ∷ (call.Lseek (pos 0) (pos 0) whence.Current, reply.Number (pos 3))
    ∷ (call.Pread (pos 0) (pos 9) (pos 0), reply.Data (codes "abc"))
    ∷ []

-- `pwrite` goes to its position with O_APPEND too
abbrev pub positioned_write_and_truncate : List (Call × Reply)
positioned_write_and_truncate =
    (call.Open (codes "/a") access.WriteOnly appending, reply.Number (pos 0))
    ∷ (call.Write (pos 0) (codes "abc"), reply.Count 3)
    ∷ (call.Pwrite (pos 0) (codes "z") (pos 0), reply.Count 1)
    ∷ (call.Ftruncate (pos 0) (pos 5), reply.Done)
    ∷ (call.Ftruncate (pos 0) (pos 65537), reply.Fail EFBIG)
    ∷ (call.Ftruncate (pos 0) (negsuc 0), reply.Fail EINVAL)
    ∷ (call.Lseek (pos 0) (pos 0) whence.Current, reply.Number (pos 3))
    ∷ (call.Pread (pos 0) (pos 1) (pos 0), reply.Fail EBADF)
    ∷ (call.Open (codes "/a") access.ReadOnly plainly, reply.Number (pos 1))
    ∷ (call.Pread (pos 1) (pos 9) (pos 0), reply.Data (122 ∷ 98 ∷ 99 ∷ 0 ∷ 0 ∷ []))
    ∷ (call.Lseek (pos 1) (negsuc 0) whence.Set, reply.Fail EINVAL)
    ∷ (call.Lseek (pos 1) (pos 9223372036854775807) whence.End, reply.Fail EOVERFLOW)
    ∷ []

-- descriptors that share a description share its flags; `dup2` closes its target, and a file
-- without names ends there
abbrev pub shared_flags : List (Call × Reply)
shared_flags =
    (call.Open (codes "/a") access.WriteOnly creating, reply.Number (pos 0))
    ∷ (call.Getfl (pos 0), reply.Number (pos 1))
    ∷ (call.Dup (pos 0), reply.Number (pos 1))
    ∷ (call.Setfl (pos 1) true false, reply.Done)
    ∷ (call.Getfl (pos 0), reply.Number (pos 5))
    ∷ (call.Write (pos 0) (codes "ab"), reply.Count 2)
    ∷ (call.Open (codes "/b") access.ReadWrite creating, reply.Number (pos 2))
    ∷ (call.Link (codes "/b") (codes "/c"), reply.Done)
    ∷ (call.Fstat (pos 2), reply.Stat kind.File 0 2)
    ∷ (call.Unlink (codes "/b"), reply.Done)
    ∷ (call.Unlink (codes "/c"), reply.Done)
    ∷ (call.Dup2 (pos 1) (pos 2), reply.Number (pos 2))
    ∷ (call.Fstat (pos 2), reply.Stat kind.File 2 1)
    ∷ (call.Setfl (pos 2) false true, reply.Done)
    ∷ (call.Getfl (pos 0), reply.Number (pos 9))
    ∷ (call.Close (pos 0), reply.Done)
    ∷ (call.Close (pos 0), reply.Fail EBADF)
    ∷ (call.Lseek (pos 2) (pos 0) whence.Current, reply.Number (pos 2))
    ∷ []

-- what is written to a pipe is read from its other end; without a writer a read ends, without a
-- reader a write fails
abbrev pub pipe_and_its_ends : List (Call × Reply)
pipe_and_its_ends =
    (call.Pipe, reply.Pair (pos 0) (pos 1))
    ∷ (call.Write (pos 1) (codes "abc"), reply.Count 3)
    ∷ (call.Read (pos 0) (pos 2), reply.Data (codes "ab"))
    ∷ (call.Read (pos 1) (pos 1), reply.Fail EBADF)
    ∷ (call.Fstat (pos 0), reply.Stat kind.Pipe 0 0)
    ∷ (call.Lseek (pos 0) (pos 0) whence.Set, reply.Fail ESPIPE)
    ∷ (call.Setfl (pos 0) false true, reply.Done)
    ∷ (call.Read (pos 0) (pos 9), reply.Data (codes "c"))
    ∷ (call.Read (pos 0) (pos 9), reply.Fail EAGAIN)
    ∷ (call.Read (pos 0) (pos 0), reply.Data [])
    ∷ (call.Close (pos 1), reply.Done)
    ∷ (call.Read (pos 0) (pos 9), reply.Data [])
    ∷ (call.Shutdown (pos 0) how.Both, reply.Fail ENOTSOCK)
    ∷ (call.Pipe, reply.Pair (pos 1) (pos 2))
    ∷ (call.Close (pos 1), reply.Done)
    ∷ (call.Write (pos 2) (codes "d"), reply.Fail EPIPE)
    ∷ (call.Write (pos 2) [], reply.Count 0)
    ∷ []

-- a socket whose writing is shut still reads, and what its peer wrote before is read first
abbrev pub half_closed_pair : List (Call × Reply)
half_closed_pair =
    (call.Socketpair, reply.Pair (pos 0) (pos 1))
    ∷ (call.Write (pos 0) (codes "ab"), reply.Count 2)
    ∷ (call.Shutdown (pos 0) how.Write, reply.Done)
    ∷ (call.Write (pos 0) (codes "c"), reply.Fail EPIPE)
    ∷ (call.Read (pos 1) (pos 9), reply.Data (codes "ab"))
    ∷ (call.Read (pos 1) (pos 9), reply.Data [])
    ∷ (call.Write (pos 1) (codes "d"), reply.Count 1)
    ∷ (call.Read (pos 0) (pos 1), reply.Data (codes "d"))
    ∷ (call.Close (pos 1), reply.Done)
    ∷ (call.Read (pos 0) (pos 1), reply.Data [])
    ∷ []

-- how a read of a new pipe is answered that was blocked for so many turns before
abbrev pub AnswersAfter : ℕ → ℕ → Answer → Type 0
AnswersAfter patience turns a =
    (settings : Settings) → settings.patience ≡ patience
    → let piped = step settings empty_state call.Pipe None nothing_carried in
    let carried : Carried = record { turns = turns; moved = nothing_moved } in
    (step settings piped.after (call.Read (pos 0) (pos 4)) None carried).answer ≡ a

-- a file is unlinked and then closed
abbrev pub closed_last : List (Call × Reply)
closed_last =
    (call.Open (codes "/a") access.ReadWrite creating, reply.Number (pos 0))
    ∷ (call.Unlink (codes "/a"), reply.Done)
    ∷ (call.Close (pos 0), reply.Done)
    ∷ []

-- a file is closed and then unlinked
abbrev pub unlinked_last : List (Call × Reply)
unlinked_last =
    (call.Open (codes "/a") access.ReadWrite creating, reply.Number (pos 0))
    ∷ (call.Close (pos 0), reply.Done)
    ∷ (call.Unlink (codes "/a"), reply.Done)
    ∷ []

-- a file is unlinked, and then `dup2` gives its descriptor to another
abbrev pub replaced_last : List (Call × Reply)
replaced_last =
    (call.Open (codes "/a") access.ReadWrite creating, reply.Number (pos 0))
    ∷ (call.Unlink (codes "/a"), reply.Done)
    ∷ (call.Open (codes "/b") access.ReadWrite creating, reply.Number (pos 1))
    ∷ (call.Dup2 (pos 1) (pos 0), reply.Number (pos 0))
    ∷ []

-- a file is closed, and then another takes its name
abbrev pub renamed_last : List (Call × Reply)
renamed_last =
    (call.Open (codes "/a") access.ReadWrite creating, reply.Number (pos 0))
    ∷ (call.Close (pos 0), reply.Done)
    ∷ (call.Open (codes "/b") access.ReadWrite creating, reply.Number (pos 0))
    ∷ (call.Close (pos 0), reply.Done)
    ∷ (call.Rename (codes "/a") (codes "/b"), reply.Done)
    ∷ []

-- a file has two names, and one of them is unlinked
abbrev pub linked_still : List (Call × Reply)
linked_still =
    (call.Open (codes "/a") access.ReadWrite creating, reply.Number (pos 0))
    ∷ (call.Link (codes "/a") (codes "/b"), reply.Done)
    ∷ (call.Unlink (codes "/a"), reply.Done)
    ∷ (call.Close (pos 0), reply.Done)
    ∷ []

-- a file is unlinked, and one of its two descriptors closed
abbrev pub shared_still : List (Call × Reply)
shared_still =
    (call.Open (codes "/a") access.ReadWrite creating, reply.Number (pos 0))
    ∷ (call.Dup (pos 0), reply.Number (pos 1))
    ∷ (call.Unlink (codes "/a"), reply.Done)
    ∷ (call.Close (pos 0), reply.Done)
    ∷ []

-- a pipe is closed at both of its ends
abbrev pub closed_pipe : List (Call × Reply)
closed_pipe =
    (call.Pipe, reply.Pair (pos 0) (pos 1))
    ∷ (call.Close (pos 0), reply.Done)
    ∷ (call.Close (pos 1), reply.Done)
    ∷ []

-- a pipe is closed at one
abbrev pub half_closed_pipe : List (Call × Reply)
half_closed_pipe =
    (call.Pipe, reply.Pair (pos 0) (pos 1))
    ∷ (call.Close (pos 0), reply.Done)
    ∷ []
