-- Believed: a contract of the headline stands on it.
-- What the calls that were granted so far have made.
use Rattle.std.specs.Prelude.{ℕ, List, Option}
use Rattle.sequential_object.specs.Object.{State}

-- the state of the sequential object and, by object number, which of its objects has that number
pub record World : Type 0 where
  pub object : State
  pub numbers : List (Option ℕ)
