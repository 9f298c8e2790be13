-- Internal: no contract of the headline or of a command stands on it.
-- What holds of all cases.
use Rattle.std.specs.Prelude.{◌≢◌, All, List}
use Rattle.posix_terms.specs.declared.outcome.Given.{Given}
use Rattle.fault_injection.specs.Cases.{fault_cases}
use Rattle.fault_injection.specs.Replaced.{outcomes_in}
use Rattle.fault_injection.specs.declared.cases.Choice.{Choice}
use Rattle.fault_injection.specs.declared.cases.FaultCase.{FaultCase}
use Rattle.fault_injection.specs.declared.places.Place.{Place}

-- each case is of an outcome that is there, and has another in its place
abbrev pub CasesDiffer : Type 0
CasesDiffer =
    (choice : Choice) (outcomes : List (List Given)) (places : List Place)
    → All (λ (case : FaultCase). outcomes_in case outcomes ≢ outcomes)
    (fault_cases choice outcomes places)
