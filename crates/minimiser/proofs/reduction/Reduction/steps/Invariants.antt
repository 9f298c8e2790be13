use Rattle.std.proofs.Common.{◌≡◌, ◌<◌, ℕ, Contains, true}
use Rattle.minimiser.specs.Reductions.{is_kept}
use Rattle.minimiser.specs.declared.step.Removal.TheVariants as step
use Rattle.minimiser.proofs.reduction.Reduction.steps.Given as goal

-- those of the lines are there, and those of the threads so far
abbrev pub invariant-loop-thread : goal.invariant-loop-thread
invariant-loop-thread l = record {
  lines : (thread line : ℕ) → is_kept l.self (step.Line thread line) ≡ true
      → Contains l.steps.items (step.Line thread line);
  threads : (thread : ℕ) → thread < l.thread → Contains l.steps.items (step.Thread thread);
}
