-- Internal: no contract of the headline or of a command stands on it.
-- A number for what threads saw, so that most of what differs is told apart without a look at it.
use Rattle.std.specs.Prelude.{ℕ, List, length, unsigned_abs}
use Rattle.std.specs.List.{fold}
use Rattle.posix_terms.specs.Errors.{code_of}
use Rattle.posix_terms.specs.Replies.{kind_code}
use Rattle.posix_terms.specs.declared.reply.Reply.{Reply}
use Rattle.posix_terms.specs.declared.reply.Reply.TheVariants as reply
use Rattle.posix_terms.specs.declared.transcript.Row.{Row}
use Rattle.explorer.specs.Delays.{mixed}
use Rattle.explorer.specs.declared.groups.Group.{Group}

-- what a reply makes of the number so far
abbrev pub with_reply : ℕ → Reply → ℕ
with_reply number (reply.Count count) = mixed number count
with_reply number (reply.Data bytes) = fold mixed (mixed number (length bytes)) bytes
with_reply number (reply.Number value) = mixed number (unsigned_abs value)
with_reply number (reply.Pair first second) =
    mixed (mixed number (unsigned_abs first)) (unsigned_abs second)
with_reply number (reply.Stat kind value links) =
    mixed (mixed (mixed number (kind_code kind)) value) links
with_reply number reply.Done = mixed number 0
with_reply number (reply.Fail error) = mixed number (code_of error)

-- and what a row does: its reply alone counts
abbrev pub with_row : ℕ → Row → ℕ
with_row number row = with_reply number row.reply

-- and all rows of a thread, after how many they are
abbrev pub with_thread : ℕ → List Row → ℕ
with_thread number rows = fold with_row (mixed number (length rows)) rows

-- the number of what threads saw
unfoldable pub number_of : List (List Row) → ℕ
number_of seen = fold with_thread 0 seen

-- that of a group
abbrev pub number_in : Group → ℕ
number_in group = number_of group.observation.seen
