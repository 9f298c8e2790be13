use Rattle.std.proofs.Common.{ℕ, ◌<◌, ◌≤◌, Contains}
use Rattle.minimiser.specs.declared.step.Removal.{Removal}
use Rattle.minimiser.specs.declared.step.Removal.TheVariants as step
use Rattle.minimiser.proofs.reduction.push_lines.Given as goal

-- the steps of before are there, and those of the lines from this one on
abbrev pub invariant-loop-line : goal.invariant-loop-line
invariant-loop-line l = record {
  before : (step : Removal) → Contains l.initial.steps.items step → Contains l.steps.items step;
  lines : (line : ℕ) → l.line ≤ line → line < l.lines
      → Contains l.steps.items (step.Line l.thread line);
}
