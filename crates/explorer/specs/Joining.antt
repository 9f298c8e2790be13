-- Internal: no contract of the headline or of a command stands on it.
-- How what is seen in the runs of cases one after the other joins groups.
use Rattle.std.specs.Prelude.{◌≡◌, ℕ, ◌+◌, List, [], ◌∷◌, Result, Ok, Err}
use Rattle.std.specs.Prelude.{slice_get, Option, Some}
use Rattle.explorer.specs.Cases.{with_delays}
use Rattle.explorer.specs.Groups.{Joins}
use Rattle.explorer.specs.Runs.{IsFault, Sees}
use Rattle.explorer.specs.Subject.{Subject}
use Rattle.explorer.specs.declared.fault.RunFault.{RunFault}
use Rattle.explorer.specs.declared.groups.Group.{Group}
use Rattle.explorer.specs.declared.observation.Observation.{Observation}

-- what a case gives: what is seen in its run, or why that was not made
abbrev pub CaseGives : Subject → (ℕ → ℕ → ℕ → Option ℕ) → ℕ → Result Observation RunFault → Type 0
CaseGives subject delays case (Ok observation) =
    Sees (with_delays (delays case) subject) observation
CaseGives subject delays case (Err fault) = IsFault (with_delays (delays case) subject) fault

-- all of these were seen, and join the groups; the first case has this number
abbrev pub AllJoin : ℕ → List (Result Observation RunFault) → List Group → List Group → Type 0
AllJoin case [] old new = new ≡ old
AllJoin case (Ok observation ∷ seen) old new =
    (joined : List Group) × Joins case observation old joined × AllJoin (case + 1) seen joined new
AllJoin case (Err fault ∷ seen) old new = ⊥

-- one of these runs was not made, for this reason
abbrev pub HasFault : List (Result Observation RunFault) → RunFault → Type 0
HasFault seen fault = (i : ℕ) × (slice_get seen i ≡ Some (Err fault))
