use Rattle.fault_injection.proofs.Differing.{cases_differ}
use Rattle.fault_injection.proofs.laws.cases_differ.Goals as goal

pub returns : goal.returns
returns c = cases_differ
