use Rattle.std.proofs.Common.{◌∙◌, ap}
use Rattle.command_line.specs.Options.{view_of}
use Rattle.command_line.proofs.Views.{next_rule, started}
use Rattle.command_line.proofs.building.arg_of.Goals as goal

pub loop-rule-init : goal.loop-rule-init
loop-rule-init c =
    ap view_of c.help-arg.ensures
    ∙ started c.new.result c.args.argument.id.now c.args.argument.help c.new.ensures.rule c.new.ensures.plain.1
    c.new.ensures.optional.1

pub loop-rule-preserved : goal.loop-rule-preserved
loop-rule-preserved c =
    next_rule _ _ _ _ _ c.loop-rule-test.true c.in_ok-arg.ensures c.loop-rule.invariant
