use Rattle.sequential_object.proofs.Turns.{fail_leaves_state}
use Rattle.sequential_object.proofs.laws.failed_calls_change_nothing.Goals as goal

pub returns : goal.returns
returns c = fail_leaves_state
