use Rattle.std.proofs.Common.{◌≡◌, ◌<◌, ℕ, Contains, true}
use Rattle.minimiser.specs.Reductions.{is_kept}
use Rattle.minimiser.specs.declared.step.Removal.TheVariants as step
use Rattle.minimiser.proofs.reduction.Reduction.line_steps.Given as goal

-- those of the threads so far are there
abbrev pub invariant-loop-thread : goal.invariant-loop-thread
invariant-loop-thread l =
    (thread line : ℕ) → thread < l.thread
    → is_kept l.self (step.Line thread line) ≡ true
    → Contains l.steps.items (step.Line thread line)
