use Rattle.std.proofs.Common.{◌≡◌, map, take}
use Rattle.command_line.specs.Options.{view_by, view_of}
use Rattle.command_line.proofs.building.args_of.Given as goal

abbrev pub invariant-loop-argument : goal.invariant-loop-argument
invariant-loop-argument l =
    map view_of l.args.items ≡ map view_by (take l.argument-index l.arguments)
