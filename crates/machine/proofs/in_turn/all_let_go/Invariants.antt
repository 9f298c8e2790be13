use Rattle.std.proofs.Common.{◌≡◌, drop}
use Rattle.machine.specs.InTurn.{all_let_go}
use Rattle.machine.proofs.in_turn.all_let_go.Given as goal

abbrev pub invariant-loop-i : goal.invariant-loop-i
invariant-loop-i g l = all_let_go l.row l.machine.whole.threads ≡ all_let_go l.row (drop l.i l.machine.whole.threads)
