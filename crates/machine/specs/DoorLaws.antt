-- Internal: no contract of the headline or of a command stands on it.
-- The laws by which each event keeps each door there.
use Rattle.lock_machine.specs.Requests.{AskTheirKind}
use Rattle.lock_model.specs.Events.{EventLaws}
use Rattle.lock_model.specs.Laws.{LocksOfArisen, PlansOfArisen}
use Rattle.call_turns.specs.Errands.{LocksNext, TakesLocked}
use Rattle.call_turns.specs.Store.{LocksAsStep}

-- the laws of locks, plans, events and requests by which each event keeps each door there
pub record DoorLaws : Type 0 where
  pub locks : LocksOfArisen
  pub plans : PlansOfArisen
  pub events : EventLaws
  pub takes : TakesLocked
  pub next : LocksNext
  pub numbers : LocksAsStep
  pub kinds : AskTheirKind
