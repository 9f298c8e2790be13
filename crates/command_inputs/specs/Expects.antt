-- Believed: a contract of a command stands on it.
-- What is run of scripts' texts, and what is printed of a run: where that is asked, its replies are
-- held to what the texts expect.
use Rattle.std.specs.Prelude.{◌≡◌, ◌⊎◌, ℕ, ◌-◌, All, Bool, true, false, List, length, map, take}
use Rattle.std.specs.Prelude.{slice_get, Option, Some, None, option_map, Ok, Err}
use Rattle.std.specs.Bool.{OnTrue}
use Rattle.std.specs.List.{zip}
use Rattle.posix_terms.specs.declared.reply.Reply.{Reply}
use Rattle.posix_terms.specs.declared.transcript.HistoryRow.{HistoryRow}
use Rattle.posix_terms.specs.declared.transcript.Row.{Row}
use Rattle.thread_scripts.specs.Faults.{Fault}
use Rattle.thread_scripts.specs.Grammar.{script_of}
use Rattle.thread_scripts.specs.Words.{lines_of}
use Rattle.thread_scripts.specs.declared.line.Line.{Line}
use Rattle.expectations.specs.Expected.{AreExpectations}
use Rattle.expectations.specs.Places.{calls_of}
use Rattle.expectations.specs.Unmet.{AreMet, IsFirstUnmet}
use Rattle.expectations.specs.declared.expected.Expectation.{Expectation}
use Rattle.expectations.specs.declared.unmet.Unmet.{Unmet}
use Rattle.machine.specs.declared.stop.Stop.{Stop}
use Rattle.command_texts.specs.Expecting.{IsFirstBad, IsGood, expectation_fault, unmet_line}
use Rattle.command_texts.specs.Expecting.{with_unmet}
use Rattle.command_texts.specs.Printing.{script_fault}
use Rattle.command_texts.specs.Reading.{scripts_from}
use Rattle.command_texts.specs.declared.expecting.BadExpectation.{BadExpectation}
use Rattle.command_texts.specs.declared.printed.Printed.{Printed}
use Rattle.run_views.specs.Rows.{IsViewed}
use Rattle.answered_calls.specs.Answered.{answered_calls}
use Rattle.json_views.specs.Ends.{run_json}
use Rattle.run_views.specs.Reasons.{IsReason}
use Rattle.command_inputs.specs.declared.expecting.UnmetLine.{UnmetLine}
use Rattle.command_inputs.specs.declared.settings.RunOptions.{RunOptions}
use Rattle.command_inputs.specs.declared.running.ToRun.{ToRun}
use Rattle.command_inputs.specs.declared.running.ToRun.TheVariants as runs

-- ---- what is run

-- this is printed for the first of these texts that is not a script
pub record HasNoScript (texts : List (List ℕ)) (printed : Printed) : Type 0 where
  pub script : ℕ
  pub fault : Fault
  pub is : scripts_from 0 texts ≡ Err (script, fault)
  pub says : printed ≡ script_fault script fault

-- this is printed for the first bad expectation of these texts, all of which are scripts
pub record HasBadExpectation (texts : List (List ℕ)) (printed : Printed) : Type 0 where
  pub scripts : List (List Line)
  pub are : scripts_from 0 texts ≡ Ok scripts
  pub bad : BadExpectation
  pub first : IsFirstBad texts bad
  pub says : printed ≡ expectation_fault bad

-- what is run of texts, and of what is expected, if that is asked: the scripts, or there is a fault
abbrev pub IsToRun : Bool → List (List ℕ) → ToRun → Type 0
IsToRun expect texts (runs.Scripts scripts) =
    (scripts_from 0 texts ≡ Ok scripts.items) × OnTrue expect (All IsGood texts)
IsToRun expect texts (runs.Fault printed) =
    HasNoScript texts printed ⊎ ((expect ≡ true) × HasBadExpectation texts printed)

-- one script is run of each of so many texts
abbrev pub RunsEach : ℕ → ToRun → Type 0
RunsEach texts (runs.Scripts scripts) = length scripts.items ≡ texts
RunsEach texts (runs.Fault printed) = Unit {0}

-- ---- what is printed of a run

-- a text is this script, and expects this
pub record Expects
    (text : List ℕ) (script : List Line) (expectations : List Expectation) : Type 0 where
  pub is_script : script_of text ≡ Ok script
  pub are_expected : AreExpectations (lines_of text) expectations

-- the calls of a thread that saw these rows: the place of each in its script, and the reply
abbrev pub calls_seen : List Line → List Row → List (ℕ × Reply)
calls_seen script rows = calls_of script (map (λ row. row.reply) rows)

-- each reply that a thread saw is as its text expects: that of each of its rows
pub record IsAsExpected (thread : List ℕ × List Row) : Type 0 where
  pub script : List Line
  pub expectations : List Expectation
  pub expects : Expects thread.0 script expectations
  pub met : All (AreMet expectations) (calls_seen script thread.1)

-- this line is of the first that is not, where the thread has this number: the reply of a row, and
-- the expectation that it does not meet
pub record IsUnmetLine (number : ℕ) (thread : List ℕ × List Row) (line : UnmetLine) : Type 0 where
  pub script : List Line
  pub expectations : List Expectation
  pub expects : Expects thread.0 script expectations
  pub first : Unmet
  pub is_first : IsFirstUnmet expectations (calls_seen script thread.1) first
  pub expectation : Expectation
  pub wanted : slice_get expectations first.expectation ≡ Some expectation
  pub row : Row
  pub came : slice_get thread.1 first.row ≡ Some row
  pub says : line ≡ record {
    thread = number;
    line = expectation.line;
    text = unmet_line number expectation row.reply;
  }

-- this line is of the first thread that saw another reply than its text expects
pub record IsFirstUnmetLine (threads : List (List ℕ × List Row)) (line : UnmetLine) : Type 0 where
  pub number : ℕ
  pub before : All IsAsExpected (take number threads)
  pub thread : List ℕ × List Row
  pub at : slice_get threads number ≡ Some thread
  pub unmet : IsUnmetLine number thread line

-- what is printed where this is printed of the run alone, whose threads have these texts and rows
abbrev pub HeldShows : Bool → List (List ℕ × List Row) → Printed → Printed → Type 0
HeldShows false threads run printed = printed ≡ run
HeldShows true threads run printed =
    (All IsAsExpected threads × (printed ≡ run))
    ⊎ ((line : UnmetLine) × IsFirstUnmetLine threads line × (printed ≡ with_unmet run line.text))

-- the line of the first reply that is not as the texts expect, if that is asked and there is one
abbrev pub IsUnmet : Bool → List (List ℕ × List Row) → Option UnmetLine → Type 0
IsUnmet false threads line = line ≡ None
IsUnmet true threads None = All IsAsExpected threads
IsUnmet true threads (Some line) = IsFirstUnmetLine threads line

-- the text of a line without its line feed
abbrev pub without_feed : UnmetLine → List ℕ
without_feed line = take (length line.text - 1) line.text

-- what is printed in JSON of a run of the scripts of these texts, with these rows and granted turns
abbrev pub JsonShows : Bool → List (List ℕ) → List (List Row) → List HistoryRow → Option Stop
    → Printed → Type 0
JsonShows expect texts transcripts rows stop printed =
    (line : Option UnmetLine) × IsUnmet expect (zip texts transcripts) line
    × (printed
    ≡ run_json (answered_calls 0 texts rows transcripts) stop (option_map without_feed line))

-- what is printed in the view that is asked
abbrev pub ViewShows : RunOptions → List (List ℕ) → List (List Row) → Option Stop → Printed → Type 0
ViewShows options texts transcripts stop printed =
    (run : Printed) × IsViewed options.view transcripts stop run
    × HeldShows options.expect (zip texts transcripts) run printed

-- what goes to standard output for a run of the scripts of these texts: with true in JSON, with
-- false in the view that is asked
abbrev pub RunHeld : Bool → RunOptions → List (List ℕ) → List (List Row) → List HistoryRow
    → Option Stop → Printed → Type 0
RunHeld true options texts transcripts rows stop printed =
    JsonShows options.expect texts transcripts rows stop printed
RunHeld false options texts transcripts rows stop printed =
    ViewShows options texts transcripts stop printed

-- with the lines on standard error that say why it stopped, where they are asked
abbrev pub IsExplained : Bool → (List ℕ → Type 0) → Printed → Printed → Type 0
IsExplained false Reason shown printed = printed ≡ shown
IsExplained true Reason shown printed =
    (lines : List ℕ) × Reason lines × (printed ≡ record shown { errors = lines })

-- what is printed for a run of the scripts of these texts, by the log in this text or by none
abbrev pub RunShows : RunOptions → List (List ℕ) → List (List Row) → List HistoryRow
    → Option (List ℕ) → Option Stop → Printed → Type 0
RunShows options texts transcripts rows log stop printed =
    (shown : Printed) × RunHeld options.json options texts transcripts rows stop shown
    × IsExplained options.why (IsReason texts transcripts rows log stop) shown printed
