-- Believed: a contract of a command stands on it.
-- The outcomes of a run that have cases: of each call the last one that it took. Of the turns of a
-- history, those that are past stand with the latest first.
use Rattle.std.specs.Prelude.{ℕ, ℤ, ◌+◌, ◌==◌, Bool, false, not, ◌&&◌, ◌||◌}
use Rattle.std.specs.Prelude.{List, [], ◌∷◌, ◌++◌, flat_map, if◌then◌else◌}
use Rattle.std.specs.Prelude.{Option, Some, None, is_some}
use Rattle.std.specs.List.{range_with_len}
use Rattle.std.specs.Ordering.{int_eq}
use Rattle.posix_terms.specs.Answers.{reply_of}
use Rattle.posix_terms.specs.Calls.{Call}
use Rattle.posix_terms.specs.declared.call.Call.TheVariants as call
use Rattle.posix_terms.specs.declared.reply.ObjectKind.{ObjectKind}
use Rattle.posix_terms.specs.declared.reply.ObjectKind.TheVariants as object
use Rattle.posix_terms.specs.declared.reply.Reply.{Reply}
use Rattle.posix_terms.specs.declared.reply.Reply.TheVariants as reply
use Rattle.posix_terms.specs.declared.transcript.HistoryRow.{HistoryRow}
use Rattle.fault_injection.specs.declared.places.Place.{Place}

-- ## What a descriptor refers to

-- the reply gives this number
abbrev pub is_number : ℤ → Option Reply → Bool
is_number n (Some (reply.Number given)) = int_eq given n
is_number n (Some (reply.Pair first second)) = int_eq first n || int_eq second n
is_number n other = false

-- what a number that the call's reply gives refers to then, by what numbers referred to before. A
-- copy refers to what the copied one did. The number of any other call is no descriptor
abbrev pub opened : Call → (ℤ → Option ObjectKind) → ℤ → Option ObjectKind
opened (call.Open path access flags) before n = Some object.File
opened call.Pipe before n = Some object.Pipe
opened call.Socketpair before n = Some object.SocketPair
opened (call.HostOpen path access flags) before n = Some object.HostFile
opened (call.TcpListen port) before n = Some object.Listener
opened (call.TcpConnect port) before n = Some object.Stream
opened (call.TcpAccept descriptor) before n = Some object.Stream
opened (call.Dup descriptor) before n = before descriptor
opened (call.DupFrom descriptor least) before n = before descriptor
opened (call.Dup2 descriptor target) before n = before descriptor
opened other before n = before n

-- what this number refers to after these turns, or did before it was closed: what it was given for
-- last
abbrev pub refers : List HistoryRow → ℤ → Option ObjectKind
refers [] n = None
refers (row ∷ past) n =
    if is_number n (reply_of row.answer) then opened row.call (refers past) n else refers past n

-- what a read or a write goes by, after these turns
abbrev pub object_of : Call → List HistoryRow → Option ObjectKind
object_of (call.Read descriptor count) past = refers past descriptor
object_of (call.Write descriptor bytes) past = refers past descriptor
object_of other past = None

-- ## The last outcome of a call

-- this is a turn of the thread
abbrev pub is_of : ℕ → HistoryRow → Bool
is_of thread row = row.turn.thread == thread

-- the call was answered at this turn with its reply
abbrev pub has_reply : HistoryRow → Bool
has_reply row = is_some (reply_of row.answer)

-- the call that the thread is in before these turns takes an outcome at one of them
abbrev pub takes_more : ℕ → List HistoryRow → Bool
takes_more thread [] = false
takes_more thread (row ∷ later) =
    if is_of thread row
    then is_some row.outcome || (not (has_reply row) && takes_more thread later)
    else takes_more thread later

-- an outcome of the thread that came at this turn is the last of its call
abbrev pub is_last : ℕ → HistoryRow → List HistoryRow → Bool
is_last thread row later = has_reply row || not (takes_more thread later)

-- ## Places

-- those of a thread at these later turns, of which so many outcomes came before
abbrev pub places_from : ℕ → ℕ → List HistoryRow → List HistoryRow → List Place
places_from thread number past [] = []
places_from thread number past (row ∷ later) =
    if is_of thread row && is_some row.outcome
    then (if is_last thread row later
    then record { thread = thread; number = number; object = object_of row.call past } ∷ []
    else [])
    ++ places_from thread (number + 1) (row ∷ past) later
    else places_from thread number (row ∷ past) later

-- the places of so many threads, in the order of the threads, and then of the outcomes
abbrev pub places_in : ℕ → List HistoryRow → List Place
places_in threads history =
    flat_map (λ thread. places_from thread 0 [] history) (range_with_len 0 threads)
