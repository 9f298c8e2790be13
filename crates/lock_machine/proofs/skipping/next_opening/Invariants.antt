use Rattle.lock_machine.proofs.Openings.{IsLeast}
use Rattle.lock_machine.proofs.skipping.next_opening.Given as goal

abbrev pub invariant-loop-i : goal.invariant-loop-i
invariant-loop-i l = IsLeast l.table l.objects l.threads l.clocks l.i l.turn
