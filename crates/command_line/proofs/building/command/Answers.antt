use Rattle.command_line.proofs.Lists.{next_kind}
use Rattle.command_line.proofs.building.command.Goals as goal

pub loop-kind-preserved : goal.loop-kind-preserved
loop-kind-preserved c =
    next_kind _ _ _ _ _ _ c.loop-kind-test.true c.in_ok-command-2.ensures c.in_ok-subcommand.ensures.0
    c.loop-kind.invariant
