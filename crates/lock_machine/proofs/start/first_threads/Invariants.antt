use Rattle.std.proofs.Common.{◌≡◌, replicate}
use Rattle.lock_machine.specs.Starting.{first_item}
use Rattle.lock_machine.proofs.start.first_threads.Given as goal

abbrev pub invariant-loop : goal.invariant-loop
invariant-loop l = l.threads.items ≡ replicate l.counter first_item
