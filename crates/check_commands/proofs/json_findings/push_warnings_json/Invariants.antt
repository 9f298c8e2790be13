use Rattle.std.proofs.Common.{◌≡◌, ◌++◌, drop}
use Rattle.check_commands.specs.Json.{warnings_json}
use Rattle.check_commands.proofs.json_findings.push_warnings_json.Given as goal

abbrev pub invariant-loop-i : goal.invariant-loop-i
invariant-loop-i l =
    l.text.items ++ warnings_json l.path l.lines (drop l.i l.warnings)
    ≡ l.initial.text.items ++ warnings_json l.path l.lines l.warnings
