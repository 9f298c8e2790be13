use Rattle.std.proofs.Common.{◌≡◌, take}
use Rattle.detio_c.specs.Reads.{counts_in}
use Rattle.detio_c.proofs.session.counts_in.Given as goal

abbrev pub invariant-loop-i : goal.invariant-loop-i
invariant-loop-i l = l.came.items ≡ take l.i (counts_in l.machine.whole)
