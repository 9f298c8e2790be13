use Rattle.logical_clocks.proofs.LiveLemmas.{IsFoundBelow}
use Rattle.logical_clocks.proofs.clocks.Clocks.turn_holder.Given as goal

abbrev pub invariant-loop-i : goal.invariant-loop-i
invariant-loop-i l = IsFoundBelow l.self-inside.threads.items l.i l.holder l.least
