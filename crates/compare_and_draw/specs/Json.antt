-- Believed: a contract of a command stands on it.
-- What `detio compare` prints in JSON for a verdict on two replays.
use Rattle.std.specs.Prelude.{ℕ, ◌+◌, ◌-◌, Bool, List, [], ◌∷◌, ◌++◌, take, drop, slice_get, codes}
use Rattle.std.specs.Prelude.{Option, Some, None}
use Rattle.serde_json.specs.Data.{Data, string}
use Rattle.comparator.specs.declared.verdict.Verdict.{Verdict}
use Rattle.comparator.specs.declared.verdict.Verdict.TheVariants as verdicts
use Rattle.posix_terms.specs.declared.transcript.Row.{Row}
use Rattle.machine.specs.declared.stop.Stop.{Stop}
use Rattle.command_texts.specs.declared.printed.Printed.{Printed}
use Rattle.json_views.specs.Objects.{count_value, line_of, object_of, optional_value}
use Rattle.json_views.specs.Sides.{side_end_line, side_row_line}
use Rattle.compare_and_draw.specs.Differences.{rows_of, verdict_status}

-- ## The verdict alone

-- the word of a verdict
abbrev pub verdict_word : Verdict → List ℕ
verdict_word verdicts.Same = codes "same"
verdict_word (verdicts.Differs thread row) = codes "differs"

-- the thread that differs
abbrev pub verdict_thread : Verdict → Option ℕ
verdict_thread verdicts.Same = None
verdict_thread (verdicts.Differs thread row) = Some thread

-- the number of its first row that does
abbrev pub verdict_row : Verdict → Option ℕ
verdict_row verdicts.Same = None
verdict_row (verdicts.Differs thread row) = Some row

-- a verdict, with its exit status
abbrev pub verdict_value : Verdict → Data
verdict_value verdict = object_of (
    (codes "verdict", string (verdict_word verdict))
    ∷ (codes "thread", optional_value (verdict_thread verdict))
    ∷ (codes "row", optional_value (verdict_row verdict))
    ∷ (codes "status", count_value (verdict_status verdict))
    ∷ [])

-- the line of that
abbrev pub verdict_json_line : Verdict → List ℕ
verdict_json_line verdict = line_of (verdict_value verdict)

-- what is printed for a verdict, with its exit status
abbrev pub verdict_json : Verdict → Printed
verdict_json verdict = record {
  status = verdict_status verdict;
  output = verdict_json_line verdict;
  errors = [];
}

-- ## The rows at which the replays differ

-- rows of a thread that both logs have; the first has this number
abbrev pub both_lines : Bool → ℕ → ℕ → List Row → List ℕ
both_lines turns thread number [] = []
both_lines turns thread number (row ∷ rows) =
    side_row_line (codes "both") turns thread number (Some row)
    ++ both_lines turns thread (number + 1) rows

-- the three rows before this one, or all that there are
abbrev pub before_json : Bool → ℕ → ℕ → List Row → List ℕ
before_json turns thread number rows =
    both_lines turns thread (number - 3) (drop (number - 3) (take number rows))

-- the rows before the one that differs, and then what each log has in its place
abbrev pub difference_json : Bool → List (List Row) → List (List Row) → Verdict → List ℕ
difference_json turns seen others verdicts.Same = []
difference_json turns seen others (verdicts.Differs thread number) =
    before_json turns thread number (rows_of seen thread)
    ++ (side_row_line (codes "log") turns thread number (slice_get (rows_of seen thread) number)
    ++ side_row_line (codes "with") turns thread number
    (slice_get (rows_of others thread) number))

-- how the replays ended
abbrev pub ends_json : Option Stop → Option Stop → List ℕ
ends_json stop other_stop =
    side_end_line (codes "log") stop ++ side_end_line (codes "with") other_stop

-- all of that after the line of the verdict
abbrev pub rows_json : Bool → List (List Row) → Option Stop → List (List Row) → Option Stop
    → Verdict → Printed
rows_json turns seen stop others other_stop verdict = record {
  status = verdict_status verdict;
  output =
      verdict_json_line verdict
      ++ (difference_json turns seen others verdict ++ ends_json stop other_stop);
  errors = [];
}
