use Rattle.posix_terms.proofs.Equality.{call_Decides, row_Decides}
use Rattle.posix_terms.proofs.laws.equal_ones_are_the_same.Goals as goal

pub returns-clause-calls : goal.returns-clause-calls
returns-clause-calls c = call_Decides

pub returns-clause-rows : goal.returns-clause-rows
returns-clause-rows c = row_Decides
