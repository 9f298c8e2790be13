use Rattle.script_checks.proofs.Refusing.{refused_for_its_form}
use Rattle.script_checks.proofs.laws.paths_are_refused.Goals as goal

pub returns : goal.returns
returns c = refused_for_its_form
