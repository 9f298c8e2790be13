use Rattle.std.proofs.Common.{ℕ, ◌+◌, ◌<◌, Result, slice_index_or}
use Rattle.explorer.specs.Joining.{CaseGives}
use Rattle.explorer.specs.declared.fault.RunFault.{RunFault}
use Rattle.explorer.specs.declared.observation.Observation.{Observation}
use Rattle.explorer.proofs.observing.observe_in_turn.Given as goal

-- the places so far have what their cases give
abbrev pub invariant-loop-i : goal.invariant-loop-i
invariant-loop-i g l = (k : ℕ) (d : Result Observation RunFault) → k < l.i
    → CaseGives l.trial (g.D.Delays.delays_of l.delays) (l.first + k)
    (slice_index_or l.seen k d)
