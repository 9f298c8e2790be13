use Rattle.command_line.proofs.Lists.{of_table, refusing, shaped}
use Rattle.command_line.proofs.building.built.Goals as goal

pub with_args-requires : goal.with_args-requires
with_args-requires c = of_table _ _ c.in_ok-args.ensures

pub returns-clause-shape : goal.returns-clause-shape
returns-clause-shape c =
    shaped c.args.given _ _ _ c.with_args.ensures.app c.described.ensures.app c.in_ok-args.ensures

pub returns-clause-conflicts : goal.returns-clause-conflicts
returns-clause-conflicts c =
    refusing c.args.given _ _ _ c.with_args.ensures.conflicts c.described.ensures.empty c.in_ok-args.ensures
