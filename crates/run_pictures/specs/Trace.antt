-- Believed: a contract of a command stands on it.
-- The trace of a run: what its text is read as.
use Rattle.std.specs.Prelude.{◌≡◌, ℕ, ◌&&◌, List, map, Option, Some, None, codes, nat_le}
use Rattle.std.specs.Prelude.{if◌then◌else◌}
use Rattle.posix_terms.specs.Calls.{kind_of, word_of}
use Rattle.answered_calls.specs.declared.answered.AnsweredCall.{AnsweredCall}
use Rattle.command_texts.specs.Transcripts.{reply_text}
use Rattle.run_views.specs.Calls.{asked_text}
use Rattle.serde_json.specs.Data.{Data, array, member, no_members, null, number, object, string}
use Rattle.serde_json.specs.Data.{unsigned}
use Rattle.serde_json.specs.Read.{read}
use Rattle.serde_json.specs.View.{items_of}
use Rattle.run_pictures.specs.Kinds.{kind_of_row, word_of_kind}
use Rattle.run_pictures.specs.declared.traces.TimedCall.{TimedCall}

-- a text of printable ASCII: what is not printable is `?`
abbrev pub shown_byte : ℕ → ℕ
shown_byte b = if nat_le 32 b && nat_le b 126 then b else 63

-- a text as a trace has it, in which what is not printable is `?`
abbrev pub shown : List ℕ → List ℕ
shown text = map shown_byte text

-- the last outcome that came for a call, if one did
abbrev pub outcome_data : Option ℕ → Data
outcome_data None = null
outcome_data (Some n) = number (unsigned n)

-- what a viewer shows of a call that is chosen
unfoldable pub arguments_data : AnsweredCall → Data
arguments_data c =
    object (member (codes "blocked") (number (unsigned c.blocked))
    (member (codes "call") (string (shown (asked_text c.row.now.call)))
    (member (codes "line") (number (unsigned c.line))
    (member (codes "outcome") (outcome_data c.outcome)
    (member (codes "reply") (string (shown (reply_text c.row.now.reply)))
    (member (codes "row") (number (unsigned c.number))
    (member (codes "turn") (number (unsigned c.row.now.turn.clock)) no_members)))))))

-- the event of a call: a whole one, `X`, from its first granted turn on
unfoldable pub event_data : TimedCall → Data
event_data t =
    object (member (codes "args") (arguments_data t.call)
    (member (codes "cat") (string (word_of_kind (kind_of_row t.call)))
    (member (codes "dur") (number (unsigned t.length))
    (member (codes "name") (string (word_of (kind_of t.call.row.now.call)))
    (member (codes "ph") (string (codes "X"))
    (member (codes "pid") (number (unsigned 1))
    (member (codes "tid") (number (unsigned t.call.thread))
    (member (codes "ts") (number (unsigned t.call.granted)) no_members))))))))

-- the trace: an event for each call
abbrev pub trace_data : List TimedCall → Data
trace_data timed =
    object (member (codes "traceEvents") (array (items_of (map event_data timed))) no_members)

-- the calls of a trace, without how long each is shown
abbrev pub calls_of_timed : List TimedCall → List AnsweredCall
calls_of_timed timed = map (λ t. t.call) timed

-- this text is read as an event for each of these calls, in their order
abbrev pub IsTrace : List AnsweredCall → List ℕ → Type 0
IsTrace calls text =
    (timed : List TimedCall) × (calls_of_timed timed ≡ calls)
    × (read text ≡ Some (trace_data timed))
