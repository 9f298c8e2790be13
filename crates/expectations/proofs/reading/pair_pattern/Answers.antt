use Rattle.std.proofs.Common.{rules}
use Rattle.expectations.proofs.Shapes.{pair_short, pair_long}
use Rattle.expectations.proofs.reading.pair_pattern.Goals as goal
use Rattle.expectations.proofs.reading.pair_pattern.Goals.{in_default-via-then-operands-lt2}
use Rattle.expectations.proofs.reading.pair_pattern.Goals.{in_default-via-else-operands-lt2+else-operands-lt3}

pub returns-in_default : goal.returns-in_default
returns-in_default c = elim c.in_default.branch [
  | in_default-via-then-operands-lt2 w ↦ pair_short c.args.operands.now (search rules)
  | in_default-via-else-operands-lt2+else-operands-lt3 w ↦ pair_long c.args.operands.now (search rules)
]
