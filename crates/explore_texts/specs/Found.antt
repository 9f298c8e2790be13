-- Believed: a contract of a command stands on it.
-- How what is found of runs that are compared with one is printed.
use Rattle.std.specs.Prelude.{◌&&◌, Bool, true, false}
use Rattle.std.specs.Prelude.{ℕ, ◌==◌}
use Rattle.std.specs.Prelude.{List, [], ◌∷◌, ◌++◌, length, slice_get, sum_by, codes}
use Rattle.std.specs.Prelude.{Option, Some, None, option_and_then}
use Rattle.std.specs.Prelude.{if◌then◌else◌}
use Rattle.std.specs.Fmt.{decimal}
use Rattle.std.specs.List.{flat_map}
use Rattle.posix_terms.specs.declared.transcript.Row.{Row}
use Rattle.comparator.specs.declared.verdict.Verdict.{Verdict}
use Rattle.comparator.specs.declared.verdict.Verdict.TheVariants as verdict
use Rattle.explorer.specs.declared.observation.Observation.{Observation}
use Rattle.command_texts.specs.Transcripts.{◌+++◌, call_text, end_words}
use Rattle.command_inputs.specs.declared.expecting.UnmetLine.{UnmetLine}
use Rattle.answered_calls.specs.declared.blocked.BlockedLine.{BlockedLine}
use Rattle.explore_texts.specs.CutOffs.{cut_text}
use Rattle.explore_texts.specs.Judged.{is_counted, passes}
use Rattle.run_views.specs.Waits.{waits_text}
use Rattle.explore_texts.specs.declared.explored_text.Shown.{Shown}
use Rattle.explore_texts.specs.declared.judgement.Allowed.{Allowed}
use Rattle.explore_texts.specs.declared.judgement.Tally.{Tally}
use Rattle.explore_texts.specs.declared.judgement.Tally.TheVariants as tallies
use Rattle.explore_texts.specs.Schedules.{left_text}
use Rattle.explore_texts.specs.declared.finding.Finding.{Finding}
use Rattle.explore_texts.specs.declared.schedule.Schedule.{Schedule}

-- ## What is printed of it

-- what a thread saw at a row, and `-` where it saw no more
abbrev pub seen_text : Option Row → List ℕ
seen_text None = codes "-"
seen_text (Some row) = call_text row

-- this row of what a thread saw, if it saw so many
abbrev pub row_at : List (List Row) → ℕ → ℕ → Option Row
row_at seen thread row = option_and_then (λ rows. slice_get rows row) (slice_get seen thread)

-- what was seen at a row before, and what is now
abbrev pub change_text : Option Row → Option Row → List ℕ
change_text before now = seen_text before +++ codes " -> " +++ seen_text now

-- the least thread with a row that differs, the first such row, and how it changed
unfoldable pub differs_text : List (List Row) → List (List Row) → ℕ → ℕ → List ℕ
differs_text before now thread row =
    codes "differs " +++ decimal thread +++ codes " " +++ decimal row +++ codes " "
    +++ change_text (row_at before thread row) (row_at now thread row)

-- that, or whether the runs ended alike where all rows are the same
abbrev pub difference_text : List (List Row) → List (List Row) → Verdict → Bool → List ℕ
difference_text before now verdict.Same true = codes "same"
difference_text before now verdict.Same false = codes "ends otherwise"
difference_text before now (verdict.Differs thread row) ends_alike =
    differs_text before now thread row

-- the end of a line: that of an unmet expectation has its own line feed
abbrev pub unmet_text : Option UnmetLine → List ℕ
unmet_text None = codes "\n"
unmet_text (Some line) = codes " " +++ line.text

-- how a run ended, which threads ended only because they had executed as many lines as a thread
-- may, and at which lines calls were blocked for good
abbrev pub ending_text : Observation → List ℕ → List BlockedLine → List ℕ
ending_text observation cut waits =
    end_words observation.stop +++ cut_text cut +++ waits_text waits

-- the line of the run without delays
abbrev pub as_is_text : Observation → List ℕ → List BlockedLine → Option UnmetLine → List ℕ
as_is_text before cut waits unmet =
    codes "as they are " +++ ending_text before cut waits +++ unmet_text unmet

-- what a line says of runs after their counts: how they ended, what differs in them, and the first
-- reply that is not as expected
abbrev pub found_text :
    Observation → Observation → List ℕ → List BlockedLine → Verdict → Bool → Option UnmetLine
    → List ℕ
found_text before now cut waits verdict ends_alike unmet =
    ending_text now cut waits +++ codes " "
    +++ difference_text before.seen now.seen verdict ends_alike +++ unmet_text unmet

-- how many of a finding's runs are counted here
abbrev pub counted : Tally → Finding → ℕ
counted tally finding = if is_counted tally finding.judgement then finding.runs else 0

-- how many runs are
abbrev pub tallied : Tally → List Finding → ℕ
tallied tally findings = sum_by (counted tally) findings

-- how many runs stopped for one reason, if any did
abbrev pub cause_text : List ℕ → ℕ → List ℕ
cause_text word count = if count == 0 then [] else word +++ decimal count

-- how many runs stopped for each reason for which any did
unfoldable pub causes_text : List Finding → List ℕ
causes_text findings =
    cause_text (codes " clock full ") (tallied tallies.ClockFull findings)
    +++ cause_text (codes " end of log ") (tallied tallies.EndOfLog findings)
    +++ cause_text (codes " diverged ") (tallied tallies.Diverged findings)

-- how many runs are counted here, after this word
abbrev pub count_text : List ℕ → Tally → List Finding → List ℕ
count_text word tally findings = word +++ decimal (tallied tally findings)

-- how many runs failed, how many stopped, by their reasons too, and in how many calls were blocked
-- for good
unfoldable pub counts_text : List Finding → List ℕ
counts_text findings =
    count_text (codes " failed ") tallies.Failed findings
    +++ count_text (codes " stopped ") tallies.Stopped findings +++ causes_text findings
    +++ count_text (codes " blocked ") tallies.Blocked findings

-- the line of a finding, unless only those of faults are shown and it is none
abbrev pub line_shown : Shown → Finding → List ℕ
line_shown shown finding =
    if shown.failed_only && passes shown.allowed finding.judgement then [] else finding.line

-- the lines of these findings, in order
abbrev pub lines_of : Shown → List Finding → List ℕ
lines_of shown findings = flat_map (line_shown shown) findings

-- how many runs and groups there are, what they came to, and how many lists were not run
unfoldable pub sums_text : Schedule → ℕ → List Finding → List ℕ
sums_text schedule runs findings =
    codes "runs " +++ decimal runs +++ codes " groups " +++ decimal (length findings)
    +++ counts_text findings +++ left_text schedule runs +++ codes "\n"

-- none of these is a fault
abbrev pub all_pass : Allowed → List Finding → Bool
all_pass allowed [] = true
all_pass allowed (finding ∷ findings) =
    passes allowed finding.judgement && all_pass allowed findings

-- the exit status: 1 where the run as it is or another is a fault
abbrev pub status_of : Allowed → Finding → List Finding → ℕ
status_of allowed as_is findings =
    if passes allowed as_is.judgement && all_pass allowed findings then 0 else 1

-- the line of the run as it is, and those of what was found of others
abbrev pub found_lines : Shown → Finding → List Finding → List ℕ
found_lines shown as_is findings = as_is.line ++ lines_of shown findings
