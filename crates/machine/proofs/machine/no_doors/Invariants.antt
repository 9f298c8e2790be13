use Rattle.std.proofs.Common.{◌≡◌, None, replicate}
use Rattle.machine.proofs.machine.no_doors.Given as goal

abbrev pub invariant-loop : goal.invariant-loop
invariant-loop g l = l.doors.items ≡ replicate l.counter None
