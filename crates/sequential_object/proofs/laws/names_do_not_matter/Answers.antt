use Rattle.sequential_object.proofs.Alike.{alike}
use Rattle.sequential_object.proofs.laws.names_do_not_matter.Goals as goal

pub returns : goal.returns
returns c = alike
