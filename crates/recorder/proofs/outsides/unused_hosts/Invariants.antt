use Rattle.std.proofs.Common.{◌≡◌, replicate}
use Rattle.recorder.proofs.outsides.unused_hosts.Given as goal

abbrev pub invariant-loop : goal.invariant-loop
invariant-loop g l = l.hosts.items ≡ replicate l.counter (record { given = 0; failures = 0 })
