use Rattle.std.proofs.Common.{◌≡◌, ◌++◌, drop}
use Rattle.check_commands.specs.Findings.{warnings_text}
use Rattle.check_commands.proofs.warning_lines.push_warnings.Given as goal

abbrev pub invariant-loop-i : goal.invariant-loop-i
invariant-loop-i l =
    l.text.items ++ warnings_text l.path l.lines (drop l.i l.warnings)
    ≡ l.initial.text.items ++ warnings_text l.path l.lines l.warnings
