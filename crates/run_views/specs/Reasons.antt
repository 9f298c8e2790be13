-- Believed: a contract of a command stands on it.
-- Why a run stopped before its end, in lines for a person.
use Rattle.std.specs.Prelude.{◌≡◌, ◌⊎◌, ℕ, Bool, true, false, List, [], ◌++◌, slice_get, codes}
use Rattle.std.specs.Prelude.{Option, Some, None, is_some}
use Rattle.std.specs.Fmt.{decimal}
use Rattle.std.specs.List.{flat_map}
use Rattle.posix_terms.specs.declared.transcript.HistoryRow.{HistoryRow}
use Rattle.posix_terms.specs.declared.transcript.Row.{Row}
use Rattle.machine.specs.declared.stop.Stop.{Stop}
use Rattle.machine.specs.declared.stop.Stop.TheVariants as stop
use Rattle.input_log.specs.Fronts.{HasNoFront, IsFront}
use Rattle.input_log.specs.declared.fault.LogFault.{LogFault}
use Rattle.input_log.specs.declared.log.LogText.{LogText}
use Rattle.input_log.specs.declared.log.Record.{Record}
use Rattle.answered_calls.specs.Blocked.{lines_blocked}
use Rattle.answered_calls.specs.declared.blocked.BlockedLine.{BlockedLine}
use Rattle.command_texts.specs.LogTexts.{record_line}
use Rattle.command_texts.specs.Transcripts.{◌+++◌}
use Rattle.run_views.specs.Calls.{asked_text}
use Rattle.run_views.specs.Found.{line_asked, outcomes_of, record_of, unanswered}

-- ---- what was asked

-- which line of a script it is
unfoldable pub line_words : ℕ → List ℕ
line_words line = codes "line " +++ decimal line +++ codes " of "

-- where that is known
abbrev pub known_line_words : Option ℕ → List ℕ
known_line_words None = []
known_line_words (Some line) = line_words line

-- the script of a thread asked this at this turn
unfoldable pub turn_words : ℕ → HistoryRow → List ℕ
turn_words thread row =
    codes "script " +++ decimal thread +++ codes " asked at " +++ decimal row.turn.clock
    +++ codes ": " +++ asked_text row.call +++ codes "\n"

-- it asked nothing more
unfoldable pub end_words : ℕ → List ℕ
end_words thread = codes "script " +++ decimal thread +++ codes " came to its end\n"

-- the thread asked this at this line of its script; or it asked nothing more
abbrev pub asked_line : ℕ → Option ℕ → Option HistoryRow → List ℕ
asked_line thread line None = end_words thread
asked_line thread line (Some row) = known_line_words line ++ turn_words thread row

-- what this thread of a run asked, whose scripts have these texts
abbrev pub asked : List (List ℕ) → List (List Row) → List HistoryRow → ℕ → List ℕ
asked texts transcripts rows thread =
    asked_line thread (line_asked (slice_get texts thread) (slice_get transcripts thread))
    (unanswered thread rows)

-- ---- what the log has

-- the log has no more records of this thread than so many
unfoldable pub no_record_words : ℕ → ℕ → List ℕ
no_record_words count thread =
    codes "the log has no record " +++ decimal count +++ codes " of thread " +++ decimal thread
    +++ codes "\n"

-- nothing came for what was asked: the run is by a log, or by none
abbrev pub missing_line : Bool → List HistoryRow → ℕ → List ℕ
missing_line false rows thread = codes "nothing comes from outside without a log\n"
missing_line true rows thread = no_record_words (outcomes_of thread rows) thread

-- the log has this record
unfoldable pub record_words : Record → List ℕ
record_words found = codes "the log has: " +++ record_line found

-- if it is there
abbrev pub found_words : Option Record → List ℕ
found_words None = []
found_words (Some found) = record_words found

-- this says what the log at the front of a text has as the record of a thread with this number. It
-- says nothing where there is no log
abbrev pub RecordSays : Option (List ℕ) → ℕ → ℕ → List ℕ → Type 0
RecordSays None thread number lines = lines ≡ []
RecordSays (Some text) thread number lines =
    ((log : LogText) × IsFront text log
    × (lines ≡ found_words (record_of thread number log.records)))
    ⊎ ((fault : LogFault) × HasNoFront text fault × (lines ≡ []))

-- ---- why it stopped

-- these lines say why a run of scripts with these texts stopped so, in which the threads saw this
-- and these turns were granted, by the log in this text or by none. They are none where it came to
-- its end, or stopped for something else than an outcome
abbrev pub IsStopReason : List (List ℕ) → List (List Row) → List HistoryRow → Option (List ℕ)
    → Option Stop → List ℕ → Type 0
IsStopReason texts transcripts rows log (Some (stop.EndOfLog thread)) lines =
    lines ≡ asked texts transcripts rows thread ++ missing_line (is_some log) rows thread
IsStopReason texts transcripts rows log (Some (stop.Diverged thread number)) lines =
    (had : List ℕ) × RecordSays log thread number had
    × (lines ≡ asked texts transcripts rows thread ++ had)
IsStopReason texts transcripts rows log _ lines = lines ≡ []

-- ---- both

-- the call on this line of a script was blocked for good
abbrev pub blocked_words : BlockedLine → List ℕ
blocked_words blocked =
    codes "line " +++ decimal blocked.line +++ codes " of script " +++ decimal blocked.thread
    +++ codes " was blocked for good\n"

-- these lines say why the run stopped so, and then which of its calls were blocked for good
abbrev pub IsReason : List (List ℕ) → List (List Row) → List HistoryRow → Option (List ℕ)
    → Option Stop → List ℕ → Type 0
IsReason texts transcripts rows log stop lines =
    (why : List ℕ) × IsStopReason texts transcripts rows log stop why
    × (lines ≡ why ++ flat_map blocked_words (lines_blocked texts transcripts rows))
