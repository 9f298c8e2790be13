use Rattle.std.proofs.Common.{sym}
use Rattle.replayer.proofs.FirstUnused.{found}
use Rattle.replayer.proofs.unused.first_unused.Goals as goal

pub returns-then-came-number_of : goal.returns-then-came-number_of
returns-then-came-number_of c =
    sym (found c.args.threads c.loop-thread.thread c.came_for-came.result c.number_of.result c.args.records.now
    c.args.rows.now c.loop-thread-test.true c.loop-thread.invariant c.came_for-came.ensures c.number_of.ensures
    c.if-came-number_of.true)
