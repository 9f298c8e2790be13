use Rattle.lock_machine.proofs.Passing.{ArePassedBelow}
use Rattle.lock_machine.proofs.skipping.pass.Given as goal

abbrev pub invariant-loop-i : goal.invariant-loop-i
invariant-loop-i l = ArePassedBelow l.turn l.threads l.i l.fn.clocks l.clocks
