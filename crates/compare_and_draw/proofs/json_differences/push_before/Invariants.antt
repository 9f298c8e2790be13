use Rattle.std.proofs.Common.{◌≡◌, ◌++◌, drop, take}
use Rattle.compare_and_draw.specs.Json.{before_json, both_lines}
use Rattle.compare_and_draw.proofs.json_differences.push_before.Given as goal

abbrev pub invariant-loop-before : goal.invariant-loop-before
invariant-loop-before l =
    l.text.items ++ both_lines l.turns l.thread l.before (drop l.before (take l.number l.rows))
    ≡ l.initial.text.items ++ before_json l.turns l.thread l.number l.rows
