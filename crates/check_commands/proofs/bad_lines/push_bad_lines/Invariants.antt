use Rattle.std.proofs.Common.{◌≡◌, ◌++◌, drop}
use Rattle.check_commands.specs.Findings.{bad_lines_text}
use Rattle.check_commands.proofs.bad_lines.push_bad_lines.Given as goal

abbrev pub invariant-loop-i : goal.invariant-loop-i
invariant-loop-i l =
    l.text.items ++ bad_lines_text l.path (drop l.i l.shown)
    ≡ l.initial.text.items ++ bad_lines_text l.path l.shown
