use Rattle.std.proofs.Common.{drop}
use Rattle.minimiser.specs.Reductions.{kept_texts}
use Rattle.minimiser.proofs.Keeping.{at_end, no_texts}
use Rattle.minimiser.proofs.reduction.Reduction.texts.Goals as goal

pub returns : goal.returns
returns c =
    let kept = c.args.self.now in
    let texts = c.args.texts.now in
    let rest = drop c.loop-thread.thread kept in
    at_end (kept_texts rest) c.loop-thread.kept.items (kept_texts kept texts) texts
    c.loop-thread.thread (no_texts rest) c.loop-thread-test.false c.loop-thread.invariant
