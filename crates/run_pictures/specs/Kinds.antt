-- Believed: a contract of a command stands on it.
-- How a call came to its answer, and how that is marked.
use Rattle.std.specs.Prelude.{ℕ, ◌&&◌, Bool, false, List, [], Option, Some, None, codes, ◌==◌}
use Rattle.std.specs.Prelude.{if◌then◌else◌}
use Rattle.posix_terms.specs.declared.reply.Reply.{Reply}
use Rattle.posix_terms.specs.declared.reply.Reply.TheVariants as reply
use Rattle.answered_calls.specs.declared.answered.AnsweredCall.{AnsweredCall}
use Rattle.command_texts.specs.Transcripts.{◌+++◌}
use Rattle.run_pictures.specs.declared.kinds.RowKind.{RowKind}
use Rattle.run_pictures.specs.declared.kinds.RowKind.TheVariants as kind

-- the kind of a call with an outcome from outside or without one, that has this reply
abbrev pub kind_by_reply : Option ℕ → Reply → RowKind
kind_by_reply outcome (reply.Fail error) = kind.Failure
kind_by_reply (Some number) reply = kind.Outside
kind_by_reply None reply = kind.Memory

-- how a call came to its answer
abbrev pub kind_of_row : AnsweredCall → RowKind
kind_of_row c = kind_by_reply c.outcome c.row.now.reply

-- the class of a kind in a page, and its category in a trace
abbrev pub word_of_kind : RowKind → List ℕ
word_of_kind kind.Memory = codes "memory"
word_of_kind kind.Outside = codes "outside"
word_of_kind kind.Failure = codes "failure"

-- this is the first row that differs, by its thread and its number
abbrev pub is_marked : Option (ℕ × ℕ) → AnsweredCall → Bool
is_marked None c = false
is_marked (Some place) c = place.0 == c.thread && place.1 == c.number

-- the classes of what is drawn of a call
unfoldable pub class_text : Option (ℕ × ℕ) → AnsweredCall → List ℕ
class_text differs c =
    word_of_kind (kind_of_row c)
    +++ (if is_marked differs c then codes " differs" else [])
