use Rattle.std.proofs.Common.{◌≡◌, ◌++◌, drop}
use Rattle.check_commands.specs.Shares.{shared_texts}
use Rattle.check_commands.proofs.shared_texts.shared_lines_of.Given as goal

abbrev pub invariant-loop-i : goal.invariant-loop-i
invariant-loop-i l = l.text.items ++ shared_texts l.json l.scripts (drop l.i l.all)
    ≡ shared_texts l.json l.scripts l.all
