use Rattle.std.proofs.Common.{◌≡◌, ◌++◌, drop}
use Rattle.std.specs.Prelude.{string_bytes}
use Rattle.check_commands.specs.Shares.{more_paths}
use Rattle.check_commands.proofs.shared_texts.add_more_paths.Given as goal

abbrev pub invariant-loop-i : goal.invariant-loop-i
invariant-loop-i l =
    string_bytes l.message ++ more_paths l.places (drop l.i l.scripts)
    ≡ string_bytes l.initial.message ++ more_paths l.places l.scripts
