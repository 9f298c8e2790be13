-- Believed: a contract of a command stands on it.
-- What `detio replay` prints for the log and the scripts that it reads.
use Rattle.std.specs.Prelude.{◌≡◌, ℕ, List, Option, Some}
use Rattle.thread_scripts.specs.declared.line.Line.{Line}
use Rattle.command_texts.specs.declared.printed.Printed.{Printed}
use Rattle.command_inputs.specs.Expects.{IsToRun, RunShows}
use Rattle.command_inputs.specs.LogTexts.{IsToReplay}
use Rattle.command_inputs.specs.declared.log_texts.ToReplay.{ToReplay}
use Rattle.command_inputs.specs.declared.log_texts.ToReplay.TheVariants as reads
use Rattle.command_inputs.specs.declared.settings.RunOptions.{RunOptions}
use Rattle.command_inputs.specs.declared.running.ToRun.{ToRun}
use Rattle.command_inputs.specs.declared.running.ToRun.TheVariants as runs
use Rattle.commands.specs.declared.ran.Ran.{Ran}
use Rattle.commands.specs.declared.ran.Ran.TheVariants as came

-- what is printed for what came of a replay of this text with the scripts of these texts
abbrev pub RanPrints : RunOptions → List ℕ → List (List ℕ) → Ran → Printed → Type 0
RanPrints options text texts (came.Run run) printed =
    RunShows options texts run.transcripts run.history (Some text) run.stop printed
RanPrints options text texts (came.Fault fault) printed = printed ≡ fault

-- what is printed for what is to be run of these texts
abbrev pub ToRunReplays : (List ℕ → List (List Line) → Ran → Type 0) → RunOptions → List ℕ
    → List (List ℕ) → ToRun → Printed → Type 0
ToRunReplays Comes options text texts (runs.Scripts scripts) printed =
    (ran : Ran) × Comes text scripts.items ran × RanPrints options text texts ran printed
ToRunReplays Comes options text texts (runs.Fault fault) printed = printed ≡ fault

-- what is printed for the text of a log and those of scripts
abbrev pub TextsReplay : (List ℕ → List (List Line) → Ran → Type 0) → RunOptions → List ℕ
    → List (List ℕ) → Printed → Type 0
TextsReplay Comes options text texts printed =
    (run : ToRun) × IsToRun options.expect texts run
    × ToRunReplays Comes options text texts run printed

-- what is printed for what was read
abbrev pub ReadReplays : (List ℕ → List (List Line) → Ran → Type 0) → RunOptions → ToReplay
    → Printed → Type 0
ReadReplays Comes options (reads.Texts text texts) printed =
    TextsReplay Comes options text texts.items printed
ReadReplays Comes options (reads.Fault fault) printed = printed ≡ fault

-- What `detio replay` prints for the log and the sources of these paths, by a replay of which this
-- comes.
-- The first of its faults counts: the number of scripts, a log that cannot be read, a script that
-- cannot be read, one that is not a script, a bad expectation, the log's, another number of threads
abbrev pub ReplayPrints : (List ℕ → List (List Line) → Ran → Type 0) → RunOptions
    → List ℕ × Option (List ℕ) → List (List ℕ × Option (List ℕ)) → Printed → Type 0
ReplayPrints Comes options log sources printed =
    (read : ToReplay) × IsToReplay log sources read × ReadReplays Comes options read printed
