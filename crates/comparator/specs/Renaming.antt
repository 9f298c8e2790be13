-- Believed: a contract of a command stands on it.
-- What threads saw, with their descriptors renamed.
use Rattle.std.specs.Prelude.{ℤ, Bool, true, false, List, [], ◌∷◌, if◌then◌else◌}
use Rattle.posix_terms.specs.Calls.{Call, kind_of}
use Rattle.posix_terms.specs.declared.call.Call.TheVariants as call
use Rattle.posix_terms.specs.declared.call.CallKind.{CallKind}
use Rattle.posix_terms.specs.declared.call.CallKind.TheVariants as kind
use Rattle.posix_terms.specs.declared.reply.Reply.{Reply}
use Rattle.posix_terms.specs.declared.reply.Reply.TheVariants as reply
use Rattle.posix_terms.specs.declared.transcript.Row.{Row}
use Rattle.comparator.specs.Naming.{given, no_names, used}
use Rattle.comparator.specs.declared.naming.Names.{Names}

-- ## Calls

-- a call at a descriptor
abbrev pub at_used : Names × ℤ → (ℤ → Call) → Names × Call
at_used (names, name) make = (names, make name)

-- a call at what a file or a stream holds, with the descriptor that it names
unfoldable pub transfer_renamed : Names → Call → Names × Call
transfer_renamed names (call.Read d count) = at_used (used names d) (λ d. call.Read d count)
transfer_renamed names (call.Write d bytes) = at_used (used names d) (λ d. call.Write d bytes)
transfer_renamed names (call.Pread d count position) =
    at_used (used names d) (λ d. call.Pread d count position)
transfer_renamed names (call.Pwrite d bytes position) =
    at_used (used names d) (λ d. call.Pwrite d bytes position)
transfer_renamed names (call.Lseek d offset whence) =
    at_used (used names d) (λ d. call.Lseek d offset whence)
transfer_renamed names (call.Ftruncate d size) =
    at_used (used names d) (λ d. call.Ftruncate d size)
transfer_renamed names other = (names, other)

-- a call with the first descriptor that it names
unfoldable pub first_renamed : Names → Call → Names × Call
first_renamed names (call.Close d) = at_used (used names d) call.Close
first_renamed names (call.Fstat d) = at_used (used names d) call.Fstat
first_renamed names (call.Dup d) = at_used (used names d) call.Dup
first_renamed names (call.DupFrom d least) = at_used (used names d) (λ d. call.DupFrom d least)
first_renamed names (call.Dup2 d target) = at_used (used names d) (λ d. call.Dup2 d target)
first_renamed names (call.Getfl d) = at_used (used names d) call.Getfl
first_renamed names (call.Setfl d append nonblock) =
    at_used (used names d) (λ d. call.Setfl d append nonblock)
first_renamed names (call.Shutdown d how) = at_used (used names d) (λ d. call.Shutdown d how)
first_renamed names (call.TcpAccept d) = at_used (used names d) call.TcpAccept
first_renamed names other = transfer_renamed names other

-- a `dup2` with its target
abbrev pub target_renamed : Names → Call → Names × Call
target_renamed names (call.Dup2 d target) = at_used (used names target) (call.Dup2 d)
target_renamed names other = (names, other)

-- a call with the descriptors that it names, in their order
abbrev pub renamed_call : Names → Call → Names × Call
renamed_call names c =
    let first = first_renamed names c in target_renamed first.0 first.1

-- ## Replies

-- the number that such a call replies is an offset, or flags
abbrev pub gives : CallKind → Bool
gives kind.Lseek = false
gives kind.Getfl = false
gives other = true

-- a reply of one new descriptor
abbrev pub one_given : Names × ℤ → Names × Reply
one_given (names, name) = (names, reply.Number name)

-- a reply with the descriptors that it gives
abbrev pub renamed_reply : Names → CallKind → Reply → Names × Reply
renamed_reply names kind (reply.Number number) =
    if gives kind then one_given (given names number) else (names, reply.Number number)
renamed_reply names kind (reply.Pair first second) = (
  (given (given names first).0 second).0,
  reply.Pair (given names first).1 (given (given names first).0 second).1,
)
renamed_reply names kind other = (names, other)

-- ## Rows, in the order of the threads

-- a row: first its call, then its reply
abbrev pub renamed_row : Names → Row → Names × Row
renamed_row names row =
    let asked = renamed_call names row.call in
    let answered = renamed_reply asked.0 (kind_of row.call) row.reply in
    (answered.0, record row { call = asked.1; reply = answered.1 })

-- the rows of a thread
abbrev pub renamed_rows : Names → List Row → Names × List Row
renamed_rows names [] = (names, [])
renamed_rows names (row ∷ rows) =
    let first = renamed_row names row in
    let others = renamed_rows first.0 rows in
    (others.0, first.1 ∷ others.1)

-- those of threads
abbrev pub renamed_threads : Names → List (List Row) → List (List Row)
renamed_threads names [] = []
renamed_threads names (rows ∷ threads) =
    let first = renamed_rows names rows in first.1 ∷ renamed_threads first.0 threads

-- what all threads saw
abbrev pub renamed : List (List Row) → List (List Row)
renamed transcripts = renamed_threads no_names transcripts
