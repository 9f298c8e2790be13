-- A session at its start.
use Rattle.std.specs.Prelude.{◌≡◌, ℕ, zero, suc, List, [], ◌∷◌, ◌++◌, Some, Ok}
use Rattle.input_log.specs.Fronts.{DecodesFront}
use Rattle.input_log.specs.Headers.{settings_of}
use Rattle.input_log.specs.Outcomes.{outcomes_of}
use Rattle.input_log.specs.declared.log.LogText.{LogText}
use Rattle.input_log.specs.declared.log.Record.{Record}
use Rattle.machine.specs.Starting.{first_shown}
use Rattle.posix_terms.specs.declared.outcome.Given.{Given}
use Rattle.posix_terms.specs.declared.transcript.Settings.{Settings}
use Rattle.detio_c.specs.declared.session.Session.{Session}
use Rattle.c_words.specs.declared.words.RunWords.{RunWords}

-- the settings that C says
abbrev pub settings_said : RunWords → Settings
settings_said words = record {
  patience = words.patience;
  door_cost = words.door_cost;
  version = words.version;
}

-- so many threads begin under these settings
abbrev pub Begins : Settings → ℕ → Session → Type 0
Begins settings threads s = s.machine ≡ Some (first_shown settings threads)

-- the outcomes of the first threads, so many, each with its own in order
abbrev pub outcomes_by : ℕ → List Record → List (List Given)
outcomes_by zero records = []
outcomes_by (suc n) records = outcomes_by n records ++ outcomes_of n records ∷ []

-- the threads of the log that stands at the front of these bytes begin, under its settings, and
-- each has the outcomes of its records
abbrev pub BeginsReplay : List ℕ → Session → Type 0
BeginsReplay bytes s =
    (log : LogText) × DecodesFront bytes (Ok log)
    × Begins (settings_of log.header) log.header.threads s
    × (s.logged.items ≡ outcomes_by log.header.threads log.records)
