use Rattle.std.proofs.Common.{◌≡◌, map, take}
use Rattle.explorer.specs.Observations.{has_ended}
use Rattle.explorer.proofs.ended.EndedThreads.new.Given as goal

abbrev pub invariant-loop-thread : goal.invariant-loop-thread
invariant-loop-thread l = l.threads.items ≡ map has_ended (take l.thread l.asked)
