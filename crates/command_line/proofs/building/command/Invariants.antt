use Rattle.std.proofs.Common.{◌≡◌, map, take}
use Rattle.clap.specs.Words.{subcommand_names}
use Rattle.command_line.specs.Commands.{program_shape, top_of}
use Rattle.command_line.specs.Names.{name_by}
use Rattle.command_line.proofs.building.command.Given as goal

abbrev pub invariant-loop-kind : goal.invariant-loop-kind
invariant-loop-kind l =
    (top_of l.command ≡ program_shape)
    × (subcommand_names l.command ≡ map name_by (take l.kind-index l.kind-items))
