-- Believed: a contract of a command stands on it.
-- Rows and ends of two replays that are compared, in JSON, each by the log that gave it or both.
use Rattle.std.specs.Prelude.{ℕ, Bool, true, false, List, [], ◌∷◌, codes, Option, Some, None}
use Rattle.posix_terms.specs.Calls.{kind_of, word_of}
use Rattle.posix_terms.specs.declared.transcript.Row.{Row}
use Rattle.machine.specs.declared.stop.Stop.{Stop}
use Rattle.serde_json.specs.Data.{Data, no_members, null, object, string}
use Rattle.json_views.specs.Calls.{arguments_value, reply_value}
use Rattle.json_views.specs.Ends.{end_words, outcome_stopped, thread_stopped}
use Rattle.json_views.specs.Objects.{Member, count_value, line_of, object_of, optional_value}
use Rattle.json_views.specs.Objects.{with_members}

-- which row it is, and by which log
abbrev pub side_place : List ℕ → ℕ → ℕ → List Member
side_place by thread number =
    (codes "by", string by)
    ∷ (codes "thread", count_value thread)
    ∷ (codes "row", count_value number)
    ∷ []

-- the clock of a turn, where turns count
abbrev pub clock_counted : Bool → ℕ → Option ℕ
clock_counted true clock = Some clock
clock_counted false clock = None

-- what the thread saw in that row: nothing, where there is no such row
abbrev pub seen_members : Bool → Option Row → List Member
seen_members turns (Some row) =
    (codes "clock", optional_value (clock_counted turns row.turn.clock))
    ∷ (codes "call", string (word_of (kind_of row.call)))
    ∷ (codes "arguments", arguments_value row.call)
    ∷ (codes "reply", reply_value row.reply)
    ∷ []
seen_members turns None =
    (codes "clock", null) ∷ (codes "call", null) ∷ (codes "arguments", null)
    ∷ (codes "reply", null) ∷ []

-- what was seen in a row, as an object of its own: null, where there is no such row
abbrev pub seen_value : Option Row → Data
seen_value None = null
seen_value (Some row) = object_of (
    (codes "call", string (word_of (kind_of row.call)))
    ∷ (codes "arguments", arguments_value row.call)
    ∷ (codes "reply", reply_value row.reply)
    ∷ [])

-- both
abbrev pub side_row_value : List ℕ → Bool → ℕ → ℕ → Option Row → Data
side_row_value by turns thread number row = object (
    with_members (with_members no_members (side_place by thread number)) (seen_members turns row))

-- the line of a row by this log, or by both
unfoldable pub side_row_line : List ℕ → Bool → ℕ → ℕ → Option Row → List ℕ
side_row_line by turns thread number row = line_of (side_row_value by turns thread number row)

-- how the replay by this log ended
abbrev pub side_end_value : List ℕ → Option Stop → Data
side_end_value by stop = object_of (
    (codes "by", string by)
    ∷ (codes "end", string (end_words stop))
    ∷ (codes "thread", optional_value (thread_stopped stop))
    ∷ (codes "outcome", optional_value (outcome_stopped stop))
    ∷ [])

-- the line of that
abbrev pub side_end_line : List ℕ → Option Stop → List ℕ
side_end_line by stop = line_of (side_end_value by stop)
