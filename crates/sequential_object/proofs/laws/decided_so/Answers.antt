use Rattle.sequential_object.proofs.So.{decided_so}
use Rattle.sequential_object.proofs.laws.decided_so.Goals as goal

pub returns : goal.returns
returns c = decided_so
