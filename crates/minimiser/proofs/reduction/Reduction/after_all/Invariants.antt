use Rattle.std.proofs.Common.{◌≡◌, drop}
use Rattle.minimiser.specs.Reductions.{after_all}
use Rattle.minimiser.proofs.reduction.Reduction.after_all.Given as goal

-- the steps that are left lead to the same
abbrev pub invariant-loop-step : goal.invariant-loop-step
invariant-loop-step l = after_all l.rest (drop l.step-index l.steps) ≡ after_all l.self l.steps
