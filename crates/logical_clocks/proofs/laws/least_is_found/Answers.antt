use Rattle.logical_clocks.proofs.TurnLemmas.{first_below_found}
use Rattle.logical_clocks.proofs.laws.least_is_found.Goals as goal

pub returns : goal.returns
returns c = first_below_found
