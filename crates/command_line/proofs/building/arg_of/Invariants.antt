use Rattle.std.proofs.Common.{◌≡◌, take}
use Rattle.std.specs.List.{fold}
use Rattle.command_line.specs.Options.{plain_view, ruled, view_of}
use Rattle.command_line.proofs.building.arg_of.Given as goal

abbrev pub invariant-loop-rule : goal.invariant-loop-rule
invariant-loop-rule l =
    view_of l.arg ≡ fold (ruled l.argument.id.now) (plain_view l.argument.id.now l.argument.help.now)
    (take l.rule-index l.rule-items)
