-- Believed: a contract of a command stands on it.
-- The script language: which texts are scripts, and which lines they have.
use Rattle.std.specs.Prelude.{ℕ, ◌+◌, List, [], ◌∷◌, length, nat_lt, if◌then◌else◌, Option, Some}
use Rattle.std.specs.Prelude.{None, Result, Ok, Err}
use Rattle.std.specs.List.{cons_option}
use Rattle.posix_terms.specs.declared.limits.TheConstants.Limits.{SCRIPT_LINES}
use Rattle.thread_scripts.specs.Faults.{Fault, bad_line, too_long}
use Rattle.thread_scripts.specs.Labels.{labels_from, place_after}
use Rattle.thread_scripts.specs.Lines.{line_of}
use Rattle.thread_scripts.specs.Words.{lines_of, words_of}
use Rattle.thread_scripts.specs.declared.line.Line.{Line}

-- what lines say, given the labels and how many lines that do something lie before
abbrev pub readings_from : List (List ℕ × ℕ) → ℕ → List (List ℕ) → List (Option (Option Line))
readings_from labels place [] = []
readings_from labels place (text ∷ texts) = line_of labels place text
    ∷ readings_from labels (place_after place (words_of text)) texts

-- what the lines of a text say
abbrev pub readings_of : List (List ℕ) → List (Option (Option Line))
readings_of texts = readings_from (labels_from 0 texts) 0 texts

-- line n before the others: a bad line is reported before those after it
abbrev pub line_before : ℕ → Option (Option Line) → Result (List Line) Fault
    → Result (List Line) Fault
line_before n None others = Err (bad_line n)
line_before n (Some reading) (Err fault) = Err fault
line_before n (Some reading) (Ok lines) = Ok (cons_option reading lines)

-- the script of lines that say this, the first of which is line n of the text
abbrev pub gathered : ℕ → List (Option (Option Line)) → Result (List Line) Fault
gathered n [] = Ok []
gathered n (reading ∷ readings) = line_before n reading (gathered (n + 1) readings)

-- the script that a text is: too many lines are reported first, then the first bad line,
-- counted from 1
unfoldable pub script_of : List ℕ → Result (List Line) Fault
script_of text = if nat_lt SCRIPT_LINES (length (lines_of text)) then Err too_long
    else gathered 1 (readings_of (lines_of text))
