-- Believed: a contract of a command stands on it.
-- When the calls of a run are blocked for good: then only patience changes what they answer.
use Rattle.std.specs.Prelude.{ℕ, ◌+◌, ◌==◌, nat_lt, Bool, true, false, not, ◌&&◌, ◌||◌}
use Rattle.std.specs.Prelude.{List, [], ◌∷◌, if◌then◌else◌, is_some, length, count_by}
use Rattle.posix_terms.specs.Answers.{reply_of}
use Rattle.posix_terms.specs.Calls.{kind_of}
use Rattle.posix_terms.specs.declared.call.CallKind.{CallKind}
use Rattle.posix_terms.specs.declared.call.CallKind.TheVariants as kind
use Rattle.posix_terms.specs.declared.transcript.HistoryRow.{HistoryRow}
use Rattle.deadlocks.specs.declared.blocked.BlockedCall.{BlockedCall}

-- ## Turns. Those that are past stand with the latest first

-- this is a turn of the thread
abbrev pub is_of : ℕ → HistoryRow → Bool
is_of thread row = row.turn.thread == thread

-- one of these is
abbrev pub has_turn : ℕ → List HistoryRow → Bool
has_turn thread [] = false
has_turn thread (row ∷ rows) = is_of thread row || has_turn thread rows

-- the call was answered at this turn with its reply
abbrev pub has_reply : HistoryRow → Bool
has_reply row = is_some (reply_of row.answer)

-- the call could not go on at this turn, and nothing outside has to do with it
abbrev pub is_blocked : HistoryRow → Bool
is_blocked row = is_some row.answer && not (has_reply row) && not (is_some row.outcome)

-- the past turns since a call last went on
abbrev pub since_reply : List HistoryRow → List HistoryRow
since_reply [] = []
since_reply (row ∷ earlier) = if is_blocked row then row ∷ since_reply earlier else []

-- a write
abbrev pub writes : CallKind → Bool
writes kind.Write = true
writes other = false

-- the call may have moved bytes at this turn: it is a write, and it had no turn among these, since
-- a call last went on. At that first turn it has filled what room there was
abbrev pub may_move : HistoryRow → List HistoryRow → Bool
may_move row earlier = writes (kind_of row.call) && not (has_turn row.turn.thread earlier)

-- of these turns, at which no call went on, those since one may have moved bytes
abbrev pub since_move : List HistoryRow → List HistoryRow
since_move [] = []
since_move (row ∷ earlier) = if may_move row earlier then [] else row ∷ since_move earlier

-- the past turns at which nothing changed
abbrev pub still_turns : List HistoryRow → List HistoryRow
still_turns past = since_move (since_reply past)

-- ## Threads

-- how many calls of the thread were answered at these turns
abbrev pub replies_at : ℕ → List HistoryRow → ℕ
replies_at thread rows = count_by (λ row. is_of thread row && has_reply row) rows

-- the thread has not ended, or it has turns still to come
abbrev pub is_live : Bool → ℕ → List HistoryRow → Bool
is_live has_ended thread later = not has_ended || has_turn thread later

-- the calls that the live threads make next, or wait with, after these turns. The first of the
-- threads has this number, and of each it is said whether it has ended in the end
abbrev pub waiting_calls : ℕ → List Bool → List HistoryRow → List HistoryRow → List BlockedCall
waiting_calls thread [] past later = []
waiting_calls thread (has_ended ∷ ended) past later =
    if is_live has_ended thread later
    then record { thread = thread; row = replies_at thread past }
    ∷ waiting_calls (thread + 1) ended past later
    else waiting_calls (thread + 1) ended past later

-- ## Moments

-- the thread of each of these calls had one of the turns at which nothing changed
abbrev pub are_still : List BlockedCall → List HistoryRow → Bool
are_still [] past = true
are_still (call ∷ calls) past = has_turn call.thread (still_turns past) && are_still calls past

-- there are calls, and it is so of each: all are blocked, and nothing changed since the first was
abbrev pub are_stuck : List BlockedCall → List HistoryRow → Bool
are_stuck [] past = false
are_stuck (call ∷ calls) past = are_still (call ∷ calls) past

-- those calls at the first moment after these turns at which it is so
abbrev pub blocked_after : List Bool → List HistoryRow → List HistoryRow → List BlockedCall
blocked_after ended past [] = []
blocked_after ended past (row ∷ later) =
    if are_stuck (waiting_calls 0 ended (row ∷ past) later) (row ∷ past)
    then waiting_calls 0 ended (row ∷ past) later
    else blocked_after ended (row ∷ past) later

-- all turns are of so many threads
abbrev pub are_within : ℕ → List HistoryRow → Bool
are_within threads [] = true
are_within threads (row ∷ history) = nat_lt row.turn.thread threads && are_within threads history

-- the calls that are blocked for good first, in a history of these threads and no others
abbrev pub blocked_in : List Bool → List HistoryRow → List BlockedCall
blocked_in ended history =
    if are_within (length ended) history then blocked_after ended [] history else []
