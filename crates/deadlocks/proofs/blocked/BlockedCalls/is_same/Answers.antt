use Rattle.std.proofs.Common.{rules}
use Rattle.std.proofs.lemmas.Slice.Eq.{slice_eq-Decides}
use Rattle.deadlocks.proofs.Moments.{call_decides}
use Rattle.deadlocks.proofs.blocked.BlockedCalls.is_same.Goals as goal

pub returns : goal.returns
returns c = slice_eq-Decides call_decides c.args.self.now c.args.other.now c.eq.result (search rules)
