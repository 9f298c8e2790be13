use Rattle.std.proofs.Common.{◌≡◌, drop}
use Rattle.lock_machine.specs.Threads.{have_ended}
use Rattle.lock_machine.proofs.machine.LockMachine.have_ended.Given as goal

abbrev pub invariant-loop-i : goal.invariant-loop-i
invariant-loop-i l = have_ended l.self.threads ≡ have_ended (drop l.i l.self.threads)
