use Rattle.command_line.proofs.Lists.{added, excluding}
use Rattle.command_line.proofs.building.with_args.Goals as goal

pub returns-clause-app : goal.returns-clause-app
returns-clause-app c = added _ _ _ c.requires c.args-2.ensures

pub returns-clause-conflicts : goal.returns-clause-conflicts
returns-clause-conflicts c = excluding _ _ _ c.args-2.ensures
