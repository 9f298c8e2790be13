use Rattle.std.proofs.Common.{◌≡◌, None}
use Rattle.replayer.specs.Outcomes.{first_unused}
use Rattle.replayer.proofs.unused.first_unused.Given as goal

abbrev pub invariant-loop-thread : goal.invariant-loop-thread
invariant-loop-thread l = first_unused l.thread l.records l.rows ≡ None
