use Rattle.std.proofs.Common.{◌≡◌}
use Rattle.replayer.specs.Threads.{doors_by}
use Rattle.replayer.proofs.threads.doors_by.Given as goal

abbrev pub invariant-loop-thread : goal.invariant-loop-thread
invariant-loop-thread l = l.doors.items ≡ doors_by l.thread l.log.records
