-- Believed: a contract of a command stands on it.
-- What `detio draw` makes of the scripts and logs that it reads.
use Rattle.std.specs.Prelude.{◌≡◌, ◌⊎◌, ℕ, List, ◌++◌, Option, codes}
use Rattle.std.specs.List.{flat_map}
use Rattle.posix_terms.specs.declared.transcript.Settings.{Settings}
use Rattle.thread_scripts.specs.declared.line.Line.{Line}
use Rattle.command_texts.specs.Printing.{cannot_read}
use Rattle.command_texts.specs.Reading.{IsText, IsUnreadable}
use Rattle.command_texts.specs.Transcripts.{◌+++◌}
use Rattle.command_inputs.specs.LogTexts.{IsToReplay}
use Rattle.command_inputs.specs.Sources.{IsRead}
use Rattle.command_inputs.specs.declared.log_texts.ToReplay.{ToReplay}
use Rattle.command_inputs.specs.declared.log_texts.ToReplay.TheVariants as reads
use Rattle.command_inputs.specs.declared.sources.SourceTexts.{SourceTexts}
use Rattle.command_inputs.specs.declared.sources.SourceTexts.TheVariants as texts
use Rattle.commands.specs.Ran.{RunRan}
use Rattle.commands.specs.declared.ran.Ran.{Ran}
use Rattle.commands.specs.declared.ran.Ran.TheVariants as came
use Rattle.commands.specs.declared.ran.Run.{Run}
use Rattle.compare_and_draw.specs.Pictures.{OneDraws, TwoRunsDraw}
use Rattle.compare_and_draw.specs.Runs.{PlainComes, TextsCome}
use Rattle.compare_and_draw.specs.declared.pictures.DrawOptions.{DrawOptions}
use Rattle.compare_and_draw.specs.declared.pictures.Drawn.{Drawn}
use Rattle.compare_and_draw.specs.declared.pictures.Drawn.TheVariants as draws

-- ## What a page and its runs are called

-- a path after a space
abbrev pub path_text : List ℕ → List ℕ
path_text path = codes " " +++ path

-- what a page of these scripts is called
abbrev pub title_text : List (List ℕ × Option (List ℕ)) → List ℕ
title_text sources = codes "Calls of" ++ flat_map (λ s. path_text s.0) sources

-- the name of the plain run in its picture
abbrev pub plain_name : List ℕ
plain_name = codes "the plain run"

-- ## One run

-- what is drawn of what came of a run with this name
abbrev pub RanDraws : DrawOptions → List ℕ → List (List ℕ) → List ℕ → Ran → Drawn → Type 0
RanDraws options title texts name (came.Run run) drawn =
    OneDraws options title texts name run drawn
RanDraws options title texts name (came.Fault fault) drawn = drawn ≡ draws.Fault fault

-- what is drawn of the run of the scripts of these texts, where this comes of it
abbrev pub TextsDraw : (List (List Line) → Ran → Type 0) → DrawOptions → List ℕ → List (List ℕ)
    → List ℕ → Drawn → Type 0
TextsDraw Comes options title texts name drawn =
    (ran : Ran) × TextsCome Comes texts ran × RanDraws options title texts name ran drawn

-- what is drawn of the plain run of texts that were read, or where they were not
abbrev pub ReadDraws : Settings → DrawOptions → List ℕ → SourceTexts → Drawn → Type 0
ReadDraws settings options title (texts.Read read) drawn =
    TextsDraw (PlainComes settings) options title read.items plain_name drawn
ReadDraws settings options title (texts.Fault fault) drawn = drawn ≡ draws.Fault fault

-- What is drawn of the plain run of these sources. The first fault counts: the number of scripts,
-- one that cannot be read, one that is not a script, the settings
abbrev pub PlainDraws : Settings → DrawOptions → List (List ℕ × Option (List ℕ)) → Drawn → Type 0
PlainDraws settings options sources drawn =
    (read : SourceTexts) × IsRead sources read
    × ReadDraws settings options (title_text sources) read drawn

-- what is drawn of a replay of what was read, by a log of this path, or where it was not read
abbrev pub LogReadDraws : DrawOptions → List ℕ → List ℕ → ToReplay → Drawn → Type 0
LogReadDraws options title path (reads.Texts log texts) drawn =
    TextsDraw (RunRan log) options title texts.items path drawn
LogReadDraws options title path (reads.Fault fault) drawn = drawn ≡ draws.Fault fault

-- What is drawn of the replay of a log with these sources. The first fault counts: the number of
-- scripts, a log that cannot be read, a script that cannot be read, one that is not a script, the
-- log's, another number of threads
abbrev pub LogDraws : DrawOptions → List ℕ × Option (List ℕ)
    → List (List ℕ × Option (List ℕ)) → Drawn → Type 0
LogDraws options log sources drawn =
    (read : ToReplay) × IsToReplay log sources read
    × LogReadDraws options (title_text sources) log.0 read drawn

-- ## Two runs

-- what is drawn of a run, with its name, and of what came of another, which has this name
abbrev pub BothDraw : DrawOptions → List ℕ → List (List ℕ) → List ℕ × Run → List ℕ → Ran → Drawn
    → Type 0
BothDraw options title texts one name (came.Run other) drawn =
    TwoRunsDraw options title texts one (name, other) drawn
BothDraw options title texts one name (came.Fault fault) drawn = drawn ≡ draws.Fault fault

-- what is drawn of a run, with its name, and of the replay of a second log: its path, and its bytes
abbrev pub SecondDraws : DrawOptions → List ℕ → List (List ℕ) → List ℕ × Run → List ℕ × List ℕ
    → Drawn → Type 0
SecondDraws options title texts one other drawn =
    (ran : Ran) × TextsCome (RunRan other.1) texts ran
    × BothDraw options title texts one other.0 ran drawn

-- what is drawn of what came of the replay of a log with this path, and of a second log
abbrev pub FirstDraws : DrawOptions → List ℕ → List (List ℕ) → List ℕ → Ran → List ℕ × List ℕ
    → Drawn → Type 0
FirstDraws options title texts path (came.Run run) other drawn =
    SecondDraws options title texts (path, run) other drawn
FirstDraws options title texts path (came.Fault fault) other drawn = drawn ≡ draws.Fault fault

-- what is drawn of the replays of two logs
abbrev pub TwoDraw : DrawOptions → List ℕ → List (List ℕ) → List ℕ × List ℕ → List ℕ × List ℕ
    → Drawn → Type 0
TwoDraw options title texts log other drawn =
    (ran : Ran) × TextsCome (RunRan log.1) texts ran
    × FirstDraws options title texts log.0 ran other drawn

-- what is drawn where the first log and the scripts were read
abbrev pub OtherDraws : DrawOptions → List ℕ → List (List ℕ) → List ℕ × List ℕ
    → List ℕ × Option (List ℕ) → Drawn → Type 0
OtherDraws options title texts log other drawn =
    (IsUnreadable other.1 × (drawn ≡ draws.Fault (cannot_read other.0)))
    ⊎ ((text : List ℕ) × IsText other.1 text
    × TwoDraw options title texts log (other.0, text) drawn)

-- what is drawn of what was read, with a first log of this path, or where it was not read
abbrev pub LogsReadDraw : DrawOptions → List ℕ → List ℕ → ToReplay → List ℕ × Option (List ℕ)
    → Drawn → Type 0
LogsReadDraw options title path (reads.Texts log texts) other drawn =
    OtherDraws options title texts.items (path, log) other drawn
LogsReadDraw options title path (reads.Fault fault) other drawn = drawn ≡ draws.Fault fault

-- What is drawn of the replays of two logs with these sources. The first fault counts: the number
-- of scripts, the first log if it cannot be read, a script that cannot be read, the second log if
-- it cannot be read, a script that is not one, the first log's, the second's
abbrev pub LogsDraw : DrawOptions → List ℕ × Option (List ℕ) → List ℕ × Option (List ℕ)
    → List (List ℕ × Option (List ℕ)) → Drawn → Type 0
LogsDraw options log other sources drawn =
    (read : ToReplay) × IsToReplay log sources read
    × LogsReadDraw options (title_text sources) log.0 read other drawn
