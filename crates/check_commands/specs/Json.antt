-- Believed: a contract of a command stands on it.
-- What is found of a script, in JSON, an object a line.
use Rattle.std.specs.Prelude.{ℕ, Bool, List, [], ◌∷◌, ◌++◌, slice_get, codes, Option, Some, None}
use Rattle.std.specs.Prelude.{◌==◌, if◌then◌else◌}
use Rattle.std.specs.Fmt.{decimal}
use Rattle.command_texts.specs.Transcripts.{◌+++◌}
use Rattle.script_checks.specs.declared.checking.ActingLine.{ActingLine}
use Rattle.script_checks.specs.declared.checking.BadLine.{BadLine}
use Rattle.script_checks.specs.declared.checking.Checked.{Checked}
use Rattle.script_checks.specs.declared.checking.Checked.TheVariants as checked
use Rattle.script_checks.specs.declared.concerns.Concern.{Concern}
use Rattle.script_checks.specs.declared.concerns.Warning.{Warning}
use Rattle.serde_json.specs.Data.{Data, no_members, object, string}
use Rattle.json_views.specs.Objects.{Member, line_of, optional_value, text_value, with_members}
use Rattle.check_commands.specs.Findings.{column_of, concern_word, concern_words, if_there}
use Rattle.check_commands.specs.Mistakes.{expected_text, found_text}

-- whether it is an error or a warning, the path of the script, and where in it that stands
abbrev pub place_members : List ℕ → List ℕ → Option ℕ → Option ℕ → List Member
place_members kind path line column =
    (codes "kind", string kind)
    ∷ (codes "path", string path)
    ∷ (codes "line", optional_value line)
    ∷ (codes "column", optional_value column)
    ∷ []

-- the object of a finding at this place, with what there is to say of it
abbrev pub finding_value : List Member → List Member → Data
finding_value place more = object (with_members (with_members no_members place) more)

-- a bad line: what is expected, and what stands there
abbrev pub bad_line_value : List ℕ → BadLine → Data
bad_line_value path bad = finding_value
    (place_members (codes "error") path (Some bad.number) (Some bad.mistake.column))
    ((codes "expected", text_value (expected_text bad.mistake.expected))
    ∷ (codes "found", text_value (found_text bad.mistake.found))
    ∷ [])

-- a finding in words
abbrev pub message_value : List Member → Data → Data
message_value place message = finding_value place ((codes "message", message) ∷ [])

-- the lines of the bad lines of a script, in order
abbrev pub bad_lines_json : List ℕ → List BadLine → List ℕ
bad_lines_json path [] = []
bad_lines_json path (bad ∷ others) =
    line_of (bad_line_value path bad) ++ bad_lines_json path others

-- an error of a whole script
abbrev pub error_json : List ℕ → List ℕ → List ℕ
error_json path message =
    line_of (message_value (place_members (codes "error") path None None) (string message))

-- how many bad lines are not shown, in words
unfoldable pub left_out_words : ℕ → List ℕ
left_out_words count =
    if count == 1 then codes "1 more bad line" else decimal count +++ codes " more bad lines"

-- how many bad lines are not shown, if any are
abbrev pub left_out_json : List ℕ → ℕ → List ℕ
left_out_json path count = if count == 0 then [] else error_json path (left_out_words count)

-- the place of a warning at this word of a line, from 0
abbrev pub warning_place : List ℕ → ActingLine → ℕ → List Member
warning_place path l word =
    place_members (codes "warning") path (Some l.number)
    (Some (column_of (slice_get l.words.items word)))

-- a warning at a line of a script
abbrev pub warning_json : List ℕ → Concern → ActingLine → List ℕ
warning_json path concern l = line_of (
    message_value (warning_place path l (concern_word concern))
    (text_value (concern_words concern l.words.items)))

-- the lines of the warnings of a script, in order
abbrev pub warnings_json : List ℕ → List ActingLine → List Warning → List ℕ
warnings_json path lines [] = []
warnings_json path lines (w ∷ others) =
    if_there (warning_json path w.concern) (slice_get lines w.place)
    ++ warnings_json path lines others

-- what is printed of a text
abbrev pub checked_json : List ℕ → Checked → List ℕ
checked_json path checked.TooLong = error_json path (codes "more than 1,000 lines")
checked_json path (checked.Bad shown left_out) =
    bad_lines_json path shown.items ++ left_out_json path left_out
checked_json path (checked.Good script lines warnings) =
    warnings_json path lines.items warnings.items
