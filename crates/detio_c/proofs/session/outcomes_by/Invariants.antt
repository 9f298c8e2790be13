use Rattle.std.proofs.Common.{◌≡◌}
use Rattle.detio_c.specs.Begun.{outcomes_by}
use Rattle.detio_c.proofs.session.outcomes_by.Given as goal

abbrev pub invariant-loop-thread : goal.invariant-loop-thread
invariant-loop-thread l = l.outcomes.items ≡ outcomes_by l.thread l.records
