use Rattle.std.proofs.Common.{◌≡◌, ◌++◌, drop, filter_map}
use Rattle.minimiser.specs.Reductions.{half_of}
use Rattle.minimiser.proofs.reduction.Reduction.halves.Given as goal

-- the halves so far and those to come make up the whole
abbrev pub invariant-loop-delay : goal.invariant-loop-delay
invariant-loop-delay l =
    l.halves.items ++ filter_map (half_of l.self) (drop l.delay-index l.delays)
    ≡ filter_map (half_of l.self) l.delays
