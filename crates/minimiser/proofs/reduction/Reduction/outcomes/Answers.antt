use Rattle.std.proofs.Common.{drop}
use Rattle.minimiser.specs.Reductions.{kept_outcomes}
use Rattle.minimiser.proofs.Keeping.{at_end, no_outcomes}
use Rattle.minimiser.proofs.reduction.Reduction.outcomes.Goals as goal

pub returns : goal.returns
returns c =
    let kept = c.args.self.now in
    let outcomes = c.args.outcomes.now in
    let rest = drop c.loop-thread.thread kept in
    at_end (kept_outcomes rest) c.loop-thread.kept.items (kept_outcomes kept outcomes) outcomes
    c.loop-thread.thread (no_outcomes rest) c.loop-thread-test.false c.loop-thread.invariant
