-- Believed: a contract of a command stands on it.
-- The groups of runs in which the threads saw the same.
use Rattle.std.specs.Prelude.{◌≡◌, ◌≢◌, ◌⊎◌, ℕ, ◌+◌, All, List, [], ◌∷◌, ◌++◌, Some}
use Rattle.std.specs.Prelude.{slice_get, slice_set, sum_by}
use Rattle.explorer.specs.declared.groups.Group.{Group}
use Rattle.explorer.specs.declared.observation.Observation.{Observation}

-- how many runs there are in all
abbrev pub runs_of : List Group → ℕ
runs_of groups = sum_by (λ (group : Group). group.runs) groups

-- the run of a case in which this was seen is one more of the group at this place
pub record JoinsOne (observation : Observation) (old new : List Group) : Type 0 where
  pub place : ℕ
  pub group : Group
  pub at : slice_get old place ≡ Some group
  pub same : group.observation ≡ observation
  pub joined : new ≡ slice_set old place (record group { runs = group.runs + 1 })

-- it is the first of a new group, since no group saw the same
pub record BeginsOne (case : ℕ) (observation : Observation) (old new : List Group) : Type 0 where
  pub others : All (λ (group : Group). group.observation ≢ observation) old
  pub begun : new ≡ old ++ record { first = case; runs = 1; observation = observation } ∷ []

-- the run of a case in which this was seen joins the groups
abbrev pub Joins : ℕ → Observation → List Group → List Group → Type 0
Joins case observation old new = JoinsOne observation old new ⊎ BeginsOne case observation old new
