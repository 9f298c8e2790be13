-- Internal: no contract of the headline or of a command stands on it.
-- How many descriptions and objects a run makes.
use Rattle.std.specs.Prelude.{ℕ, ◌+◌, ◌*◌, ◌≤◌, List}
use Rattle.std.specs.List.{sum_by}
use Rattle.logical_clocks.specs.declared.clocks.ThreadClock.{ThreadClock}
use Rattle.call_turns.specs.Store.{Stored}

-- how far the clocks of all threads came, together
abbrev pub time_of : List ThreadClock → ℕ
time_of clocks = sum_by (λ (c : ThreadClock). c.clock) clocks

-- no more than so many were made
pub record BornWithin (most : ℕ) (table : Stored) : Type 0 where
  pub descriptions : table.table.descriptions.made ≤ most
  pub objects : table.table.made_objects ≤ most

-- from one time of a clock to another, two were made at most for each 1 that it moved
pub record BearsInTime (before : ℕ) (old : Stored) (after : ℕ) (new : Stored) : Type 0 where
  pub descriptions : new.table.descriptions.made + 2 * before
      ≤ old.table.descriptions.made + 2 * after
  pub objects : new.table.made_objects + 2 * before ≤ old.table.made_objects + 2 * after
