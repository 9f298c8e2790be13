-- Believed: a contract of the headline stands on it.
-- Scripts as what a run is made of.
use Rattle.std.specs.Prelude.{ℕ, List, [], length, slice_index_or}
use Rattle.posix_terms.specs.declared.outcome.Given.{Given}
use Rattle.posix_terms.specs.declared.transcript.Settings.{Settings}
use Rattle.thread_scripts.specs.declared.line.Line.{Line}
use Rattle.lock_model.specs.Machine.{Setup}
use Rattle.thread_scripts.specs.ScriptPrograms.{scripted}
use Rattle.lock_model.specs.State.{State}
use Rattle.lock_machine.specs.Conditions.{Conditions, setup_under, start_under}

-- by thread its script and its outcomes from outside
pub record Inputs : Type 0 where
  pub scripts : List (List Line)
  pub outcomes : List (List Given)
  pub settings : Settings

-- the script of thread i
abbrev pub script_of : Inputs → ℕ → List Line
script_of input i = slice_index_or input.scripts i []

-- the outcomes that come for thread i from outside
abbrev pub outcomes_of : Inputs → ℕ → List Given
outcomes_of input i = slice_index_or input.outcomes i []

-- a thread for each script, which asks what its script says
abbrev pub conditions_of : Inputs → Conditions
conditions_of input = record {
  threads = length input.scripts;
  settings = input.settings;
  supply = record { next = λ i. scripted (script_of input i); outcomes = outcomes_of input };
}

-- the setup under which the lock machine runs these scripts
abbrev pub setup_of : Inputs → Setup
setup_of input = setup_under (conditions_of input)

-- the state in which a run of these scripts starts
abbrev pub first_state : Inputs → State
first_state input = start_under (conditions_of input)
