-- Believed: the contract of the command line stands on it.
-- What clap is given of the program, by the tables of its subcommands.
use Rattle.std.specs.Prelude.{Bool, List, ◌++◌, codes, false, map, true}
use Rattle.clap.specs.Simple.{App, Shape, app_of, new_shape, shape_of}
use Rattle.clap.specs.Walk.{Rule as Read}
use Rattle.clap.specs.declared.builder.command.Command.{Command}
use Rattle.command_line.specs.Options.{view_by}
use Rattle.command_line.specs.declared.tables.Subcommand.{Subcommand}

-- the command uses nothing that changes how words are read
abbrev pub is_plain : Command → Bool
is_plain c = (shape_of c).is_plain

-- a command with these arguments more
abbrev pub with_rules : App → List Read → App
with_rules a rules = record a { top = record a.top { rules = a.top.rules ++ rules } }

-- a command that is nothing without a subcommand
abbrev pub needing_subcommand : App → App
needing_subcommand a = record a {
  top = record a.top { subcommand_required = true; arg_required_else_help = true };
}

-- a subcommand of the table
abbrev pub shape_by : Subcommand → Shape
shape_by s =
    record (new_shape s.name.now) { rules = map (λ a. (view_by a).read) s.arguments.now }

-- the program itself, whether it has a subcommand or not
abbrev pub top_of : Command → Shape
top_of c = record (app_of c).top { is_leaf = false }

abbrev pub program_shape : Shape
program_shape = record (new_shape (codes "detio")) {
  is_leaf = false;
  has_version = true;
  arg_required_else_help = true;
  subcommand_required = true;
}
