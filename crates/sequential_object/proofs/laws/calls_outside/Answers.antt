use Rattle.sequential_object.proofs.Outside.{keeps_outside, leaves_alike, outside_locks}
use Rattle.sequential_object.proofs.laws.calls_outside.Goals as goal

pub returns : goal.returns
returns c = record { locks = outside_locks; keeps = keeps_outside; leaves = leaves_alike }
