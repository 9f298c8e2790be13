-- Believed: a contract of a command stands on it.
-- What `detio compare` prints for two logs and the scripts that it reads.
use Rattle.std.specs.Prelude.{◌≡◌, ℕ, ◌⊎◌, Bool, true, false, List, length, Option, Result, Ok, Err}
use Rattle.std.specs.Prelude.{if◌then◌else◌}
use Rattle.call_machine.specs.Plain.{counts_fit}
use Rattle.comparator.specs.Comparison.{IsVerdictBy}
use Rattle.comparator.specs.declared.verdict.Verdict.{Verdict}
use Rattle.posix_terms.specs.declared.transcript.Row.{Row}
use Rattle.machine.specs.declared.stop.Stop.{Stop}
use Rattle.thread_scripts.specs.Faults.{Fault}
use Rattle.thread_scripts.specs.declared.line.Line.{Line}
use Rattle.command_texts.specs.Printing.{cannot_read, needs_scripts}
use Rattle.command_texts.specs.Reading.{AreRead, IsText, IsUnreadable, scripts_from}
use Rattle.command_texts.specs.declared.printed.Printed.{Printed}
use Rattle.compare_and_draw.specs.Differences.{rows_printed, verdict_printed}
use Rattle.compare_and_draw.specs.Json.{rows_json, verdict_json}
use Rattle.commands.specs.Tells.{ScriptsTell}
use Rattle.compare_and_draw.specs.declared.compare.CompareOptions.{CompareOptions}
use Rattle.commands.specs.declared.told.Told.{Told}
use Rattle.commands.specs.declared.told.Told.TheVariants as tells

-- what is printed for a verdict on what two replays saw, and how they ended: the verdict alone, or
-- with `rows` the rows and the ends too
abbrev pub plain_verdict : CompareOptions → List (List Row) → Option Stop → List (List Row)
    → Option Stop → Verdict → Printed
plain_verdict options seen stop others other_stop verdict =
    if options.rows then rows_printed options.turns seen stop others other_stop verdict
    else verdict_printed verdict

-- the same in JSON
abbrev pub json_verdict : CompareOptions → List (List Row) → Option Stop → List (List Row)
    → Option Stop → Verdict → Printed
json_verdict options seen stop others other_stop verdict =
    if options.rows then rows_json options.turns seen stop others other_stop verdict
    else verdict_json verdict

-- in one form or the other
abbrev pub verdict_printed_by : CompareOptions → List (List Row) → Option Stop → List (List Row)
    → Option Stop → Verdict → Printed
verdict_printed_by options seen stop others other_stop verdict =
    if options.json then json_verdict options seen stop others other_stop verdict
    else plain_verdict options seen stop others other_stop verdict

-- what is printed for what was seen by the first log and how that ended, and what is reported of
-- the second
abbrev pub BothPrint : CompareOptions → List (List Row) → Option Stop → Told → Printed → Type 0
BothPrint options seen stop (tells.Run others other_stop) printed =
    (verdict : Verdict) × IsVerdictBy options.turns seen others verdict
    × (printed ≡ verdict_printed_by options seen stop others other_stop verdict)
BothPrint options seen stop (tells.Fault fault) printed = printed ≡ fault

-- what is printed for a second log, where this was seen by the first
abbrev pub SeenCompares : CompareOptions → List (List Row) → Option Stop → List ℕ
    → Result (List (List Line)) (ℕ × Fault) → Printed → Type 0
SeenCompares options seen stop other scripts printed =
    (told : Told) × ScriptsTell other scripts told × BothPrint options seen stop told printed

-- what is printed for a second log, where this is reported of the first
abbrev pub ToldCompares : CompareOptions → Told → List ℕ → Result (List (List Line)) (ℕ × Fault)
    → Printed → Type 0
ToldCompares options (tells.Run seen stop) other scripts printed =
    SeenCompares options seen stop other scripts printed
ToldCompares options (tells.Fault fault) other scripts printed = printed ≡ fault

-- what is printed for two logs with these scripts, or for the first fault among the scripts
abbrev pub ScriptsCompare : CompareOptions → List ℕ → List ℕ
    → Result (List (List Line)) (ℕ × Fault) → Printed → Type 0
ScriptsCompare options log other scripts printed =
    (told : Told) × ScriptsTell log scripts told × ToldCompares options told other scripts printed

-- what is printed once the scripts were read, or one could not be read
abbrev pub TextsCompare : CompareOptions → List ℕ → List ℕ → Result (List (List ℕ)) (List ℕ)
    → Printed → Type 0
TextsCompare options log other (Ok texts) printed =
    ScriptsCompare options log other (scripts_from 0 texts) printed
TextsCompare options log other (Err path) printed = printed ≡ cannot_read path

-- what is printed once both logs were read
abbrev pub LogsCompare : CompareOptions → List ℕ → List ℕ → List (List ℕ × Option (List ℕ))
    → Printed → Type 0
LogsCompare options log other sources printed =
    (outcome : Result (List (List ℕ)) (List ℕ)) × AreRead sources outcome
    × TextsCompare options log other outcome printed

-- what is printed once the first log was read
abbrev pub LogCompares : CompareOptions → List ℕ → List ℕ × Option (List ℕ)
    → List (List ℕ × Option (List ℕ)) → Printed → Type 0
LogCompares options log other sources printed =
    (IsUnreadable other.1 × (printed ≡ cannot_read other.0))
    ⊎ ((text : List ℕ) × IsText other.1 text × LogsCompare options log text sources printed)

-- what is printed, by whether there are as many scripts as a run can have
abbrev pub CountCompares : Bool → CompareOptions → List ℕ × Option (List ℕ)
    → List ℕ × Option (List ℕ) → List (List ℕ × Option (List ℕ)) → Printed → Type 0
CountCompares false options log other sources printed = printed ≡ needs_scripts
CountCompares true options log other sources printed =
    (IsUnreadable log.1 × (printed ≡ cannot_read log.0))
    ⊎ ((text : List ℕ) × IsText log.1 text × LogCompares options text other sources printed)

-- What `detio compare` prints for two logs and the sources of these paths. The first of its faults
-- counts: the number of scripts, a log that cannot be read, a script that cannot be read, one that
-- is not a script, what a replay of the first log cannot run, what one of the second cannot
abbrev pub ComparePrints : CompareOptions → List ℕ × Option (List ℕ) → List ℕ × Option (List ℕ)
    → List (List ℕ × Option (List ℕ)) → Printed → Type 0
ComparePrints options log other sources printed =
    CountCompares (counts_fit (length sources) (length sources)) options log other sources printed
