-- Believed: a contract of a command stands on it.
-- At which lines of its script's text the calls of a thread stand, by the replies that it had.
use Rattle.std.specs.Prelude.{ℕ, ◌+◌, ◌-◌, List, [], ◌∷◌, if◌then◌else◌, map, slice_index_or}
use Rattle.std.specs.Prelude.{Option, None, option_map, Result, Ok, Err}
use Rattle.posix_terms.specs.declared.reply.Reply.{Reply}
use Rattle.thread_scripts.specs.Faults.{Fault}
use Rattle.thread_scripts.specs.Grammar.{script_of}
use Rattle.thread_scripts.specs.Words.{lines_of}
use Rattle.thread_scripts.specs.declared.line.Line.{Line}
use Rattle.expectations.specs.Expected.{counts}
use Rattle.expectations.specs.Places.{next_place, places_of}

-- the numbers of the lines that are neither empty, nor spaces alone, nor a comment. The first of
-- these lines has this number
abbrev pub counted_from : ℕ → List (List ℕ) → List ℕ
counted_from number [] = []
counted_from number (text ∷ texts) =
    if counts text then number ∷ counted_from (number + 1) texts
    else counted_from (number + 1) texts

-- the number of the line with this place, from 1, where these are the numbers of those that are
-- counted. It is 0 where there are not so many
abbrev pub line_at : List ℕ → ℕ → ℕ
line_at counted place = slice_index_or counted (place - 1) 0

-- the number, from 1, of the line of these with this place
abbrev pub line_of_place : List (List ℕ) → ℕ → ℕ
line_of_place texts place = line_at (counted_from 1 texts) place

-- ## The lines of calls

-- the lines of a script's calls to which these are the replies
abbrev pub lines_of_script : List (List ℕ) → Result (List Line) Fault → List Reply → List ℕ
lines_of_script texts (Ok script) replies = map (line_of_place texts) (places_of script replies)
lines_of_script texts (Err fault) replies = []

-- the lines of the calls of a text to which these are the replies. There are none where the text is
-- not a script
abbrev pub lines_of_calls : List ℕ → List Reply → List ℕ
lines_of_calls text replies = lines_of_script (lines_of text) (script_of text) replies

-- the line of a script's call after those, if there is one
abbrev pub next_line_of : List (List ℕ) → Result (List Line) Fault → List Reply → Option ℕ
next_line_of texts (Ok script) replies =
    option_map (line_of_place texts) (next_place script replies)
next_line_of texts (Err fault) replies = None

-- the line of the next call that the script with this text makes after these replies, if any
abbrev pub next_call_line : List ℕ → List Reply → Option ℕ
next_call_line text replies = next_line_of (lines_of text) (script_of text) replies
