-- Believed: a contract of the headline stands on it.
-- The runs that lead to a machine, and how they grow.
use Rattle.std.specs.Prelude.{◌≡◌, [], ◌∷◌, ◌++◌, length, Some, true, false}
use Rattle.lock_machine.specs.Conditions.{Conditions, setup_under}
use Rattle.lock_machine.specs.Shows.{StandsAt}
use Rattle.lock_machine.specs.Whole.{Whole, settings_in}
use Rattle.lock_model.specs.Machine.{Event, Setup, happens, is_allowed}
use Rattle.lock_model.specs.Programs.{Supply}
use Rattle.lock_model.specs.Runs.{own}
use Rattle.lock_model.specs.State.{State, thread_of}
use Rattle.posix_terms.specs.declared.outcome.Given.{Given}
use Rattle.posix_terms.specs.declared.step.Step.{Step}

-- its threads and settings, and where what comes next is from
abbrev pub terms_with : Whole → Supply → Conditions
terms_with w supply = record {
  threads = length w.threads;
  settings = settings_in w;
  supply = supply;
}

-- s is the end of a run in which just those steps were asked and those outcomes came that it has
-- itself, and the machine shows it
abbrev pub IsEnd : Whole → State → Type 0
IsEnd w s = StandsAt w (terms_with w (own s)) s

-- what comes with an event
pub data Coming : Type 0 where
  Nothing : Coming
  Asks : (step : Step) → Coming
  Brings : (given : Given) → Coming

-- beside all that came before
abbrev pub supply_with : Coming → State → Supply
supply_with Nothing s = own s
supply_with (Asks x) s = record (own s) { next = λ i asked replies. Some x }
supply_with (Brings g) s = record (own s) { outcomes = λ i. (thread_of s i).came ++ g ∷ [] }

-- the setup of the run that led to a machine, with what comes to it next
abbrev pub setup_with : Whole → Coming → State → Setup
setup_with w c s = setup_under (terms_with w (supply_with c s))

-- whatever run leads to the old machine: at its end this event is allowed, and with it the run
-- leads to the new machine
abbrev pub Grows : Coming → Event → Whole → Whole → Type 0
Grows c e old new = (s : State) → IsEnd old s
    → (is_allowed (setup_with old c s) e s ≡ true) × IsEnd new (happens (setup_with old c s) e s)

-- whatever run leads to the machine: at its end a number forbids this event
abbrev pub IsForbidden : Coming → Event → Whole → Type 0
IsForbidden c e w = (s : State) → IsEnd w s → is_allowed (setup_with w c s) e s ≡ false

-- whatever run leads to the machine: at its end no number forbids it
abbrev pub IsPermitted : Coming → Event → Whole → Type 0
IsPermitted c e w = (s : State) → IsEnd w s → is_allowed (setup_with w c s) e s ≡ true
