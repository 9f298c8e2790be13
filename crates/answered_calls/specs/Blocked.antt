-- Believed: a contract of a command stands on it.
-- At which lines of its script's text the calls stand that are blocked for good.
use Rattle.std.specs.Prelude.{ℕ, ◌+◌, Bool, not, is_some, List, [], ◌∷◌, map, slice_index_or, take}
use Rattle.std.specs.Prelude.{unwrap_or}
use Rattle.posix_terms.specs.declared.transcript.HistoryRow.{HistoryRow}
use Rattle.posix_terms.specs.declared.transcript.Row.{Row}
use Rattle.deadlocks.specs.Blocked.{blocked_in}
use Rattle.deadlocks.specs.declared.blocked.BlockedCall.{BlockedCall}
use Rattle.answered_calls.specs.Lines.{next_call_line}
use Rattle.answered_calls.specs.declared.blocked.BlockedLine.{BlockedLine}

-- the line of the next call of a thread with this text, after so many of these rows
abbrev pub line_after : List ℕ → List Row → ℕ → ℕ
line_after text rows count =
    unwrap_or (next_call_line text (map (λ row. row.reply) (take count rows))) 0

-- where a call stands, in the text of its thread
abbrev pub blocked_line : List (List ℕ) → List (List Row) → BlockedCall → BlockedLine
blocked_line texts seen call = record {
  thread = call.thread;
  line = line_after (slice_index_or texts call.thread []) (slice_index_or seen call.thread [])
      call.row;
}

-- where these calls stand, in their order
abbrev pub blocked_lines : List (List ℕ) → List (List Row) → List BlockedCall → List BlockedLine
blocked_lines texts seen calls = map (blocked_line texts seen) calls

-- ## Of a run

-- a thread with this text makes no call after those with these replies
abbrev pub is_done : List ℕ → List Row → Bool
is_done text rows = not (is_some (next_call_line text (map (λ row. row.reply) rows)))

-- of the threads from this one on, whether they make none
abbrev pub done_from : ℕ → List (List ℕ) → List (List Row) → List Bool
done_from thread [] seen = []
done_from thread (text ∷ texts) seen =
    is_done text (slice_index_or seen thread []) ∷ done_from (thread + 1) texts seen

-- of each thread
abbrev pub threads_done : List (List ℕ) → List (List Row) → List Bool
threads_done texts seen = done_from 0 texts seen

-- where the calls stand that were blocked for good in a run with these turns
abbrev pub lines_blocked : List (List ℕ) → List (List Row) → List HistoryRow → List BlockedLine
lines_blocked texts seen history =
    blocked_lines texts seen (blocked_in (threads_done texts seen) history)
