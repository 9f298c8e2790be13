-- Believed: a contract of a command stands on it.
-- What is found of a text: its bad lines, or the warnings.
use Rattle.std.specs.Prelude.{◌≡◌, ℕ, ◌+◌, ◌-◌, All, Bool, List, [], ◌∷◌, length, map}
use Rattle.std.specs.Prelude.{slice_index_or, take, Option, Some, None, Ok, Err}
use Rattle.thread_scripts.specs.Faults.{bad_line, too_long}
use Rattle.thread_scripts.specs.Grammar.{readings_of, script_of}
use Rattle.thread_scripts.specs.Words.{lines_of}
use Rattle.thread_scripts.specs.declared.line.Line.{Line}
use Rattle.script_checks.specs.Columns.{IsColumn}
use Rattle.script_checks.specs.Concerns.{warnings_from}
use Rattle.script_checks.specs.Reaching.{AreReached}
use Rattle.script_checks.specs.declared.checking.BadLine.{BadLine}
use Rattle.script_checks.specs.declared.checking.Checked.{Checked}
use Rattle.script_checks.specs.declared.checking.Checked.TheVariants as checked
use Rattle.script_checks.specs.declared.concerns.Warning.{Warning}

-- the numbers of the lines that are bad, by what the lines say, the first of which has this number
abbrev pub bad_from : ℕ → List (Option (Option Line)) → List ℕ
bad_from n [] = []
bad_from n (None ∷ readings) = n ∷ bad_from (n + 1) readings
bad_from n (Some reading ∷ readings) = bad_from (n + 1) readings

-- the numbers of the lines that do something
abbrev pub acting_from : ℕ → List (Option (Option Line)) → List ℕ
acting_from n [] = []
acting_from n (None ∷ readings) = acting_from (n + 1) readings
acting_from n (Some None ∷ readings) = acting_from (n + 1) readings
acting_from n (Some (Some l) ∷ readings) = n ∷ acting_from (n + 1) readings

-- a mistake stands in its line, or right after it
abbrev pub StandsInLine : List (List ℕ) → BadLine → Type 0
StandsInLine texts bad = IsColumn (slice_index_or texts (bad.number - 1) []) bad.mistake.column

-- these are the bad lines of a text that is not too long, up to 20 of them, and so many more
pub record AreBad (text : List ℕ) (shown : List BadLine) (left_out : ℕ) : Type 0 where
  pub first : ℕ
  pub is : script_of text ≡ Err (bad_line first)
  pub shown_are : map (λ bad. bad.number) shown ≡ take 20 (bad_from 1 (readings_of (lines_of text)))
  pub rest : left_out ≡ length (bad_from 1 (readings_of (lines_of text))) - 20
  pub columns : All (StandsInLine (lines_of text)) shown

-- the text is this script, whose lines have these numbers in it, and these are its warnings
pub record IsWarnedOf (text : List ℕ) (script : List Line) (numbers : List ℕ)
    (warnings : List Warning) : Type 0 where
  pub is : script_of text ≡ Ok script
  pub numbers_are : numbers ≡ acting_from 1 (readings_of (lines_of text))
  pub marks : List Bool
  pub reached : AreReached script marks
  pub warned : warnings ≡ warnings_from script 0 script marks

-- what was found of a text
abbrev pub IsChecked : List ℕ → Checked → Type 0
IsChecked text checked.TooLong = script_of text ≡ Err too_long
IsChecked text (checked.Bad shown left_out) = AreBad text shown.items left_out
IsChecked text (checked.Good script lines warnings) =
    IsWarnedOf text script (map (λ l. l.number) lines.items) warnings.items
