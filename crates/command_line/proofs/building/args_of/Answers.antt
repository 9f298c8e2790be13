use Rattle.command_line.proofs.Views.{next_argument}
use Rattle.command_line.proofs.building.args_of.Goals as goal

pub loop-argument-preserved : goal.loop-argument-preserved
loop-argument-preserved c =
    next_argument _ _ _ _ _ c.loop-argument-test.true c.in_ok-push.ensures.items c.in_ok-arg_of.ensures
    c.loop-argument.invariant
