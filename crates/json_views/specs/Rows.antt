-- Believed: a contract of a command stands on it.
-- The line of a call that was answered, in JSON.
use Rattle.std.specs.Prelude.{ℕ, List, [], ◌∷◌, codes}
use Rattle.posix_terms.specs.Calls.{kind_of, word_of}
use Rattle.serde_json.specs.Data.{Data, no_members, object, string}
use Rattle.answered_calls.specs.Answered.{Answered}
use Rattle.json_views.specs.Calls.{arguments_value, reply_value}
use Rattle.json_views.specs.Objects.{Member, count_value, line_of, optional_value, with_members}

-- where the call stands
abbrev pub place_of : Answered → List Member
place_of c =
    (codes "thread", count_value c.thread)
    ∷ (codes "row", count_value c.number)
    ∷ (codes "line", count_value c.line)
    ∷ (codes "clock", count_value c.row.turn.clock)
    ∷ []

-- what it was asked, what it got, and how it came to that
abbrev pub course_of : Answered → List Member
course_of c =
    (codes "call", string (word_of (kind_of c.row.call)))
    ∷ (codes "arguments", arguments_value c.row.call)
    ∷ (codes "reply", reply_value c.row.reply)
    ∷ (codes "outcome", optional_value c.outcome)
    ∷ (codes "blocked", count_value c.blocked)
    ∷ []

-- both
abbrev pub row_value : Answered → Data
row_value c = object (with_members (with_members no_members (place_of c)) (course_of c))

-- the line of a call that was answered
abbrev pub row_line : Answered → List ℕ
row_line c = line_of (row_value c)
