use Rattle.std.proofs.Common.{◌≡◌}
use Rattle.explorer.specs.ListCounts.{pair_count}
use Rattle.explorer.proofs.lists.pair_count.Given as goal

-- the places so far are counted
abbrev pub invariant-loop-rest : goal.invariant-loop-rest
invariant-loop-rest l = l.count ≡ pair_count l.reach l.rest
