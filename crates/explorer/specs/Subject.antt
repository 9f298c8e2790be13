-- Believed: a contract of a command stands on it.
-- What runs, as it is and with changes.
use Rattle.std.specs.Prelude.{ℕ, List}
use Rattle.posix_terms.specs.declared.outcome.Given.{Given}
use Rattle.posix_terms.specs.declared.transcript.Settings.{Settings}
use Rattle.explorer.specs.declared.trial.Trial.{Trial}

-- the texts of scripts, what comes for each from outside, and the settings of the runs
pub record Subject : Type 0 where
  pub texts : List (List ℕ)
  pub outcomes : List (List Given)
  pub settings : Settings

-- what a trial runs
abbrev pub subject : Trial → Subject
subject trial =
    record { texts = trial.texts.now; outcomes = trial.outcomes.now; settings = trial.settings }
