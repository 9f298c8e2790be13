-- Believed: a contract of a command stands on it.
-- What of a run and of its log says why it stopped.
use Rattle.std.specs.Prelude.{ℕ, ◌==◌, ◌&&◌, Bool, List, [], ◌∷◌, length, filter, map}
use Rattle.std.specs.Prelude.{if◌then◌else◌, Option, Some, None, is_some}
use Rattle.posix_terms.specs.Answers.{reply_of}
use Rattle.posix_terms.specs.declared.transcript.HistoryRow.{HistoryRow}
use Rattle.posix_terms.specs.declared.transcript.Row.{Row}
use Rattle.input_log.specs.declared.log.Record.{Record}
use Rattle.answered_calls.specs.Lines.{next_call_line}

-- the last of these turns that is of this thread; where none is, what was found before
abbrev pub last_turn : ℕ → Option HistoryRow → List HistoryRow → Option HistoryRow
last_turn thread found [] = found
last_turn thread found (row ∷ rows) =
    last_turn thread (if row.turn.thread == thread then Some row else found) rows

-- the turn, if its call has no reply
abbrev pub without_reply : Option HistoryRow → Option HistoryRow
without_reply None = None
without_reply (Some row) = if is_some (reply_of row.answer) then None else Some row

-- the granted turn of the call of this thread that has no reply
abbrev pub unanswered : ℕ → List HistoryRow → Option HistoryRow
unanswered thread rows = without_reply (last_turn thread None rows)

-- an outcome came for this thread at this turn
abbrev pub has_come : ℕ → HistoryRow → Bool
has_come thread row = row.turn.thread == thread && is_some row.outcome

-- how many outcomes came for this thread
abbrev pub outcomes_of : ℕ → List HistoryRow → ℕ
outcomes_of thread rows = length (filter (has_come thread) rows)

-- the record of this thread with this number
abbrev pub record_of : ℕ → ℕ → List Record → Option Record
record_of thread number [] = None
record_of thread number (first ∷ records) =
    if first.thread == thread && first.number == number then Some first
    else record_of thread number records

-- the line of a text with the call that a thread with these rows makes next
abbrev pub line_asked : Option (List ℕ) → Option (List Row) → Option ℕ
line_asked (Some text) (Some rows) = next_call_line text (map (λ row. row.reply) rows)
line_asked _ _ = None
