-- Internal: no contract of the headline or of a command stands on it.
-- Each description is of an end that its object has, in every state that arises.
use Rattle.std.specs.Prelude.{Option}
use Rattle.sequential_object.specs.Object.{State, empty_state}
use Rattle.sequential_object.specs.Step.{Carried, step}
use Rattle.sequential_object.specs.Unused.{HoldsNothingUnused}
use Rattle.sequential_object.specs.Waiting.{EndsMatch}
use Rattle.posix_terms.specs.Calls.{Call}
use Rattle.posix_terms.specs.declared.outcome.Outcome.{Outcome}
use Rattle.posix_terms.specs.declared.transcript.Settings.{Settings}

-- it is so of the state in which nothing is open
abbrev pub StartsMatched : Type 0
StartsMatched = EndsMatch empty_state

-- and each turn of each call keeps it so, whatever its outcome is, where nothing unused is held
abbrev pub StepsKeepMatched : Type 0
StepsKeepMatched =
    (settings : Settings) (s : State) (c : Call) (outcome : Option Outcome) (carried : Carried)
    → HoldsNothingUnused s → EndsMatch s
    → EndsMatch (step settings s c outcome carried).after
