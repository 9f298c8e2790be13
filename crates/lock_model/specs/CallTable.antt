-- Believed: a contract of the headline stands on it.
-- What calls do: any functions of what the calls before have made.
use Rattle.std.specs.Prelude.{ℕ, Option, Bool, true, false}
use Rattle.posix_terms.specs.Queries.{Query}
use Rattle.sequential_object.specs.Worlds.{World}
use Rattle.sequential_object.specs.declared.turn_end.TurnEnd.{TurnEnd}
use Rattle.posix_terms.specs.Calls.{Call}
use Rattle.posix_terms.specs.declared.outcome.Given.{Given}
use Rattle.sequential_object.specs.Step.{Carried}

-- what a call that takes an object does with it: it acts inside, or goes
-- outside through a door, or does so and keeps the table to its answer
pub data Way : Type 0 where
  Inside : Way
  Door : Way
  Keeps_table : Way

-- which object's lock a call takes
pub data Plan : Type 0 where
  No_object : Plan
  Object : (number : ℕ) → (way : Way) → Plan

-- a call planned so takes the lock of an object
abbrev pub has_object : Plan → Bool
has_object No_object = false
has_object (Object number way) = true

-- in this way a call keeps the table to its answer
abbrev pub way_keeps : Way → Bool
way_keeps Keeps_table = true
way_keeps Inside = false
way_keeps Door = false

-- a call planned so takes an object and keeps the table to its answer
abbrev pub keeps_table : Plan → Bool
keeps_table No_object = false
keeps_table (Object number way) = way_keeps way

-- in this way a call goes outside
abbrev pub way_goes : Way → Bool
way_goes Inside = false
way_goes Door = true
way_goes Keeps_table = true

-- a call planned so goes outside
abbrev pub goes_outside : Plan → Bool
goes_outside No_object = false
goes_outside (Object number way) = way_goes way

-- each by the world that the call finds and what it carries from its blocked turns
pub record CallTable : Type 0 where
  -- what a call carries at its first turn
  pub nothing_carried : Carried
  -- what it locks
  pub plan : World → Call → Carried → Plan
  -- the world after a call that does not keep the table
  pub change : World → Call → Carried → World
  -- the world after a call that keeps the table
  pub kept_change : World → Call → Carried → Given → World
  -- what a call that goes outside asks there
  pub asks : World → Call → Carried → Option Query
  -- an outcome that this request can have
  pub fits : Option Query → Given → Bool
  pub answer : World → Call → Option Given → Carried → TurnEnd
