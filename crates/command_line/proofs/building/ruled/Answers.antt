use Rattle.command_line.proofs.Views.{excludes, needs, required_without}
use Rattle.command_line.proofs.building.ruled.Goals as goal

pub returns-in-RequiredWithout : goal.returns-in-RequiredWithout
returns-in-RequiredWithout c =
    required_without c.args.id.now c.args.arg c.in-RequiredWithout.other _ c.in-RequiredWithout.is
    c.required_unless_present.ensures

pub returns-in-Needs : goal.returns-in-Needs
returns-in-Needs c = needs c.args.id.now c.args.arg c.in-Needs.other _ c.in-Needs.is c.requires_arg.ensures

pub returns-in-Excludes : goal.returns-in-Excludes
returns-in-Excludes c =
    excludes c.args.id.now c.args.arg c.in-Excludes.other _ c.in-Excludes.is c.conflicts_with.ensures
