use Rattle.std.proofs.Common.{length, ◌-◌, ◌≤◌}
use Rattle.std.specs.List.{All}
use Rattle.script_checks.specs.Columns.{IsWordOf}
use Rattle.script_checks.proofs.words.placed_words.Given as goal

abbrev pub invariant-loop-start : goal.invariant-loop-start
invariant-loop-start l =
    (l.start ≤ length l.line) × All (λ w. IsWordOf l.line w.text.now w.column) l.words.items

abbrev pub decreases-loop-start : goal.decreases-loop-start
decreases-loop-start l = length l.line - l.start
