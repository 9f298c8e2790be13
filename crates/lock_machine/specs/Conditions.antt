-- Believed: a contract of the headline stands on it.
-- What a run is made of, as a setup of the lock machine.
use Rattle.std.specs.Prelude.{ℕ}
use Rattle.posix_terms.specs.declared.transcript.Settings.{Settings}
use Rattle.lock_model.specs.Machine.{Setup}
use Rattle.lock_model.specs.Programs.{Supply}
use Rattle.lock_model.specs.RealLaws.{real_setup, real_start}
use Rattle.lock_model.specs.State.{State}

-- so many threads, with the steps that they ask and the outcomes that come for them from outside,
-- whoever supplies these
pub record Conditions : Type 0 where
  pub threads : ℕ
  pub settings : Settings
  pub supply : Supply

-- the setup of the lock machine with the real calls, under these conditions
abbrev pub setup_under : Conditions → Setup
setup_under terms = real_setup terms.settings terms.supply

-- over a table with nothing open and only the root
abbrev pub start_under : Conditions → State
start_under terms = real_start terms.threads
