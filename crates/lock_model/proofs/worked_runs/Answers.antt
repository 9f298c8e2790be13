use Rattle.std.proofs.Common.{refl}
use Rattle.det_mutex.specs.Attempt.{takes}
use Rattle.lock_model.specs.Machine.{moves, lock_after, world_after, row_after, advance, can_attempt, attempt}
use Rattle.lock_model.specs.Schedule.{next_event, plain, plain_run}
use Rattle.logical_clocks.specs.TurnOrder.{first_below, yields, has_turn, turn_holder}
use Rattle.lock_model.proofs.worked_runs.Goals as goal

pub returns : goal.returns
unfolding takes moves lock_after world_after row_after advance can_attempt attempt next_event plain plain_run
    first_below yields has_turn turn_holder
returns c =
    record {
      unlocked = λ x. refl;
      unlocked_over = λ x. refl;
      locked = λ x. refl;
      locked_over = λ x. refl;
      outside = λ x. refl;
      keeping = λ x. refl;
      blocked = λ x. refl;
      blocked_silent = λ x. refl;
      blocked_over = λ x. refl;
    }
