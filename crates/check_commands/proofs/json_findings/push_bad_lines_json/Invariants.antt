use Rattle.std.proofs.Common.{◌≡◌, ◌++◌, drop}
use Rattle.check_commands.specs.Json.{bad_lines_json}
use Rattle.check_commands.proofs.json_findings.push_bad_lines_json.Given as goal

abbrev pub invariant-loop-i : goal.invariant-loop-i
invariant-loop-i l =
    l.text.items ++ bad_lines_json l.path (drop l.i l.shown)
    ≡ l.initial.text.items ++ bad_lines_json l.path l.shown
