use Rattle.std.proofs.Common.{◌≡◌, ◌++◌, drop, take}
use Rattle.compare_and_draw.specs.Differences.{before_text, indented_text}
use Rattle.compare_and_draw.proofs.differences.push_before.Given as goal

abbrev pub invariant-loop-before : goal.invariant-loop-before
invariant-loop-before l =
    l.text.items ++ indented_text l.turns l.thread l.before (drop l.before (take l.number l.rows))
    ≡ l.initial.text.items ++ before_text l.turns l.thread l.number l.rows
