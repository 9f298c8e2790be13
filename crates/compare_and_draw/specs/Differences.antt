-- Believed: a contract of a command stands on it.
-- What `detio compare` prints for a verdict on two replays.
use Rattle.std.specs.Prelude.{ℕ, ◌+◌, ◌-◌, Bool, List, [], ◌∷◌, take, drop, get_or, slice_get}
use Rattle.std.specs.Prelude.{Option, Some, None, codes}
use Rattle.std.specs.Fmt.{decimal}
use Rattle.comparator.specs.declared.verdict.Verdict.{Verdict}
use Rattle.comparator.specs.declared.verdict.Verdict.TheVariants as verdicts
use Rattle.posix_terms.specs.declared.transcript.Row.{Row}
use Rattle.machine.specs.declared.stop.Stop.{Stop}
use Rattle.command_texts.specs.Transcripts.{◌+++◌, end_text}
use Rattle.command_texts.specs.declared.printed.Printed.{Printed}
use Rattle.run_views.specs.Rows.{call_row_text}

-- ## The verdict alone

-- the line of a verdict: thread and row are counted from 0
unfoldable pub verdict_line : Verdict → List ℕ
verdict_line verdicts.Same = codes "same\n"
verdict_line (verdicts.Differs thread row) =
    codes "differs " +++ decimal thread +++ codes " " +++ decimal row +++ codes "\n"

-- the exit status of a verdict
abbrev pub verdict_status : Verdict → ℕ
verdict_status verdicts.Same = 0
verdict_status (verdicts.Differs thread row) = 1

-- what is printed for a verdict, with its exit status
abbrev pub verdict_printed : Verdict → Printed
verdict_printed verdict = record {
  status = verdict_status verdict;
  output = verdict_line verdict;
  errors = [];
}

-- ## The rows at which the replays differ

-- what a thread saw: nothing, where it is not there
abbrev pub rows_of : List (List Row) → ℕ → List Row
rows_of transcripts thread = get_or transcripts thread []

-- rows of a thread after two spaces each; the first has this number
abbrev pub indented_text : Bool → ℕ → ℕ → List Row → List ℕ
indented_text turns thread number [] = []
indented_text turns thread number (row ∷ rows) =
    codes "  " +++ call_row_text turns thread number row
    +++ indented_text turns thread (number + 1) rows

-- the three rows before this one, or all that there are
abbrev pub before_text : Bool → ℕ → ℕ → List Row → List ℕ
before_text turns thread number rows =
    indented_text turns thread (number - 3) (drop (number - 3) (take number rows))

-- there is no row of this number
unfoldable pub missing_row : ℕ → ℕ → List ℕ
missing_row thread number = decimal thread +++ codes " " +++ decimal number +++ codes " -\n"

-- the row of this number; where there is none, `-` after the number
abbrev pub row_or_none : Bool → ℕ → ℕ → Option Row → List ℕ
row_or_none turns thread number (Some row) = call_row_text turns thread number row
row_or_none turns thread number None = missing_row thread number

-- the rows before the one that differs, and then what each has in its place
unfoldable pub difference_text : Bool → List (List Row) → List (List Row) → Verdict → List ℕ
difference_text turns seen others verdicts.Same = []
difference_text turns seen others (verdicts.Differs thread number) =
    before_text turns thread number (rows_of seen thread)
    +++ codes "< " +++ row_or_none turns thread number (slice_get (rows_of seen thread) number)
    +++ codes "> " +++ row_or_none turns thread number (slice_get (rows_of others thread) number)

-- how the replays ended
abbrev pub ends_text : Option Stop → Option Stop → List ℕ
ends_text stop other_stop = codes "< " +++ end_text stop +++ codes "> " +++ end_text other_stop

-- all of that after the line of the verdict
abbrev pub rows_printed : Bool → List (List Row) → Option Stop → List (List Row) → Option Stop
    → Verdict → Printed
rows_printed turns seen stop others other_stop verdict = record {
  status = verdict_status verdict;
  output =
      verdict_line verdict +++ difference_text turns seen others verdict
      +++ ends_text stop other_stop;
  errors = [];
}
