-- Believed: a contract of a command stands on it.
-- The cases of what is tried in place of the outcomes of threads, one outcome in each.
use Rattle.std.specs.Prelude.{List, [], flat_map, map, Option, Some, None}
use Rattle.std.specs.Prelude.{slice_get, slice_index_or}
use Rattle.posix_terms.specs.declared.outcome.Given.{Given}
use Rattle.fault_injection.specs.Tried.{tried}
use Rattle.fault_injection.specs.declared.cases.Choice.{Choice}
use Rattle.fault_injection.specs.declared.cases.FaultCase.{FaultCase}
use Rattle.fault_injection.specs.declared.injected.Injected.{Injected}
use Rattle.fault_injection.specs.declared.places.Place.{Place}

-- the cases of a place with this outcome, or with none
abbrev pub cases_at : Choice → Place → Option Given → List FaultCase
cases_at choice place None = []
cases_at choice place (Some given) =
    map
    (λ (one : Injected). record {
      thread = place.thread;
      number = place.number;
      injected = one;
    })
    (tried choice place.object given)

-- the cases of a place, by the outcomes of threads
abbrev pub cases_of : Choice → List (List Given) → Place → List FaultCase
cases_of choice outcomes place =
    cases_at choice place (slice_get (slice_index_or outcomes place.thread []) place.number)

-- the cases of these places, in their order
abbrev pub fault_cases : Choice → List (List Given) → List Place → List FaultCase
fault_cases choice outcomes places = flat_map (cases_of choice outcomes) places
