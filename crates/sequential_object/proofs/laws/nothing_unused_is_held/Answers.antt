use Rattle.sequential_object.proofs.Tidy.{ends_are_open, starts_tidy}
use Rattle.sequential_object.proofs.Unused.{steps_keep_tidy}
use Rattle.sequential_object.proofs.laws.nothing_unused_is_held.Goals as goal

pub returns : goal.returns
returns c = record { starts = starts_tidy; steps = steps_keep_tidy; ends = ends_are_open }
