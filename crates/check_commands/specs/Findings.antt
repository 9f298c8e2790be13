-- Believed: a contract of a command stands on it.
-- The printed lines of what is found of a script.
use Rattle.std.specs.Prelude.{ℕ, Bool, true, false, List, [], ◌∷◌, ◌++◌, slice_get, codes, Option}
use Rattle.std.specs.Prelude.{Some, None, ◌==◌, bytes_eq, if◌then◌else◌}
use Rattle.std.specs.Fmt.{decimal}
use Rattle.command_texts.specs.Transcripts.{◌+++◌}
use Rattle.thread_scripts.specs.declared.line.Line.{Line}
use Rattle.script_checks.specs.declared.checking.ActingLine.{ActingLine}
use Rattle.script_checks.specs.declared.checking.BadLine.{BadLine}
use Rattle.script_checks.specs.declared.checking.Checked.{Checked}
use Rattle.script_checks.specs.declared.checking.Checked.TheVariants as checked
use Rattle.script_checks.specs.declared.concerns.Concern.{Concern}
use Rattle.script_checks.specs.declared.concerns.Concern.TheVariants as concern
use Rattle.script_checks.specs.declared.concerns.Warning.{Warning}
use Rattle.script_checks.specs.declared.words.PlacedWord.{PlacedWord}
use Rattle.script_checks.specs.Paths as refusal
use Rattle.script_checks.specs.Paths.{Refusal, error_of, path_refusal}
use Rattle.posix_terms.specs.Errors.{name_of}
use Rattle.check_commands.specs.Mistakes.{mistake_text, quoted}

-- where something stands: the path of the script, the line and the column
abbrev pub position_text : List ℕ → ℕ → ℕ → List ℕ
position_text path line column =
    path +++ codes ":" +++ decimal line +++ codes ":" +++ decimal column +++ codes ": "

-- what is printed for a bad line: where its mistake stands, and what it is
unfoldable pub bad_line_text : List ℕ → BadLine → List ℕ
bad_line_text path bad =
    position_text path bad.number bad.mistake.column +++ mistake_text bad.mistake

-- what is printed for the bad lines of a script, in order
abbrev pub bad_lines_text : List ℕ → List BadLine → List ℕ
bad_lines_text path [] = []
bad_lines_text path (bad ∷ others) = bad_line_text path bad ++ bad_lines_text path others

-- the words after the number of the bad lines that are not shown
abbrev pub more_words : ℕ → List ℕ
more_words count = if count == 1 then codes " more bad line\n" else codes " more bad lines\n"

-- how many bad lines are not shown, if any are
abbrev pub left_out_text : List ℕ → ℕ → List ℕ
left_out_text path count =
    if count == 0 then [] else path +++ codes ": " +++ decimal count +++ more_words count

-- the column of a word, and the first where there is none
abbrev pub column_of : Option PlacedWord → ℕ
column_of None = 1
column_of (Some word) = word.column

-- the text of a word, and nothing where there is none
abbrev pub text_of : Option PlacedWord → List ℕ
text_of None = []
text_of (Some word) = word.text.now

-- a warning at this word of a line, from 0
abbrev pub warning_head : List ℕ → ActingLine → ℕ → List ℕ
warning_head path l word =
    position_text path l.number (column_of (slice_get l.words.items word)) +++ codes "warning: "

-- the word of a line, from 0, at which a warning of it stands
abbrev pub concern_word : Concern → ℕ
concern_word concern.UnusedLabel = 1
concern_word concern.NeverReached = 0
concern_word (concern.PathRefused word) = word

-- why a path is refused, in words
abbrev pub refusal_words : Refusal → List ℕ
refusal_words refusal.Empty = codes "it is empty"
refusal_words refusal.TooLong = codes "it has more than 255 bytes"
refusal_words (refusal.Dots name) = quoted name +++ codes " is not a name"
refusal_words refusal.EndsInSlash = codes "it ends with a slash"
refusal_words (refusal.LongName name) =
    codes "the name " +++ quoted name +++ codes " has more than 14 bytes"

-- the error with which it is, and why
unfoldable pub error_words : Option Refusal → List ℕ
error_words None = []
error_words (Some r) =
    codes " with " +++ name_of (error_of r) +++ codes ": " +++ refusal_words r

-- the path that a word names: `""` is the empty one
abbrev pub path_in : List ℕ → List ℕ
path_in word = if bytes_eq word (34 ∷ 34 ∷ []) then [] else word

-- that the call of this word refuses the path of that one
abbrev pub path_words : List ℕ → List ℕ → List ℕ
path_words name word =
    name +++ codes " refuses this path" +++ error_words (path_refusal (path_in word))

-- what may be wrong with a line that has these words
unfoldable pub concern_words : Concern → List PlacedWord → List ℕ
concern_words concern.UnusedLabel words =
    codes "no line jumps to the label " +++ text_of (slice_get words 1)
concern_words concern.NeverReached words = codes "this line is never reached"
concern_words (concern.PathRefused word) words =
    path_words (text_of (slice_get words 0)) (text_of (slice_get words word))

-- what is printed for a warning at a line of a script
abbrev pub warning_text : List ℕ → Concern → ActingLine → List ℕ
warning_text path concern l =
    warning_head path l (concern_word concern) +++ concern_words concern l.words.items
    +++ codes "\n"

-- what is printed for a line, and nothing where there is none
abbrev pub if_there : (ActingLine → List ℕ) → Option ActingLine → List ℕ
if_there text None = []
if_there text (Some l) = text l

-- what is printed for the warnings of a script, in order
abbrev pub warnings_text : List ℕ → List ActingLine → List Warning → List ℕ
warnings_text path lines [] = []
warnings_text path lines (w ∷ others) =
    if_there (warning_text path w.concern) (slice_get lines w.place)
    ++ warnings_text path lines others

-- what is printed of a text
abbrev pub checked_text : List ℕ → Checked → List ℕ
checked_text path checked.TooLong = path +++ codes ": more than 1,000 lines\n"
checked_text path (checked.Bad shown left_out) =
    bad_lines_text path shown.items ++ left_out_text path left_out
checked_text path (checked.Good script lines warnings) =
    warnings_text path lines.items warnings.items

-- a text is a script
abbrev pub is_good : Checked → Bool
is_good checked.TooLong = false
is_good (checked.Bad shown left_out) = false
is_good (checked.Good script lines warnings) = true

-- the script that was found, if one was
abbrev pub script_in : Checked → List (List Line)
script_in checked.TooLong = []
script_in (checked.Bad shown left_out) = []
script_in (checked.Good script lines warnings) = script ∷ []
