-- Believed: a contract of a command stands on it.
-- The names of the subcommands.
use Rattle.std.specs.Prelude.{ℕ, List, [], ◌∷◌, codes}
use Rattle.clap.specs.declared.builder.command.Command.{Command}
use Rattle.clap.specs.Words.{shape_of}
use Rattle.command_line.specs.declared.tables.Kind.{Kind}
use Rattle.command_line.specs.declared.tables.Kind.TheVariants as kind

-- the name of a command
abbrev pub name_of : Command → List ℕ
name_of c = (shape_of c).name

-- the name of a subcommand of the program
abbrev pub name_by : Kind → List ℕ
name_by kind.Check = codes "check"
name_by kind.Plain = codes "plain"
name_by kind.Explore = codes "explore"
name_by kind.Faults = codes "faults"
name_by kind.Minimise = codes "minimise"
name_by kind.Record = codes "record"
name_by kind.Replay = codes "replay"
name_by kind.Run = codes "run"
name_by kind.Rerun = codes "rerun"
name_by kind.Compare = codes "compare"
name_by kind.Draw = codes "draw"
name_by kind.Show = codes "show"
name_by kind.Make = codes "make"
name_by kind.Upgrade = codes "upgrade"

-- the names of the program's subcommands, in the order in which its help has them
abbrev pub all_names : List (List ℕ)
all_names =
    codes "check" ∷ codes "plain" ∷ codes "explore" ∷ codes "faults" ∷ codes "minimise"
    ∷ codes "record" ∷ codes "replay" ∷ codes "run" ∷ codes "rerun" ∷ codes "compare"
    ∷ codes "draw" ∷ codes "show" ∷ codes "make" ∷ codes "upgrade" ∷ []
