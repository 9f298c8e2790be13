use Rattle.machine.proofs.Recording.{record_laws}
use Rattle.machine.proofs.laws.outcomes_are_recorded.Goals as goal

pub returns : goal.returns
returns c = record_laws
