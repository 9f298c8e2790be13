use Rattle.std.proofs.Common.{◌≡◌, ◌++◌, drop}
use Rattle.check_commands.specs.Shares.{more_paths}
use Rattle.check_commands.proofs.shared_texts.push_more_paths.Given as goal

abbrev pub invariant-loop-i : goal.invariant-loop-i
invariant-loop-i l =
    l.text.items ++ more_paths l.places (drop l.i l.scripts)
    ≡ l.initial.text.items ++ more_paths l.places l.scripts
