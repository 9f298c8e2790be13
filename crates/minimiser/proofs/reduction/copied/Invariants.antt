use Rattle.std.proofs.Common.{◌≡◌, ◌++◌, drop}
use Rattle.minimiser.proofs.reduction.copied.Given as goal

abbrev pub invariant-loop-lines : goal.invariant-loop-lines
invariant-loop-lines l = l.copied.items ++ drop l.lines-index l.threads ≡ l.threads
