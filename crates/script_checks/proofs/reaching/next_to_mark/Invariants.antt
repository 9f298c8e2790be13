use Rattle.std.proofs.Common.{◌≡◌, ◌<◌, ℕ, true, slice_get, Some}
use Rattle.thread_scripts.specs.declared.line.Line.{Line}
use Rattle.script_checks.specs.Marks.{LeadsToMarks}
use Rattle.script_checks.proofs.reaching.next_to_mark.Given as goal

-- what the marked lines before this one lead to is marked
abbrev pub invariant-loop-place : goal.invariant-loop-place
invariant-loop-place l = (place : ℕ) (line : Line) → place < l.place
    → slice_get l.lines place ≡ Some line → slice_get l.marks place ≡ Some true
    → LeadsToMarks l.marks place line
