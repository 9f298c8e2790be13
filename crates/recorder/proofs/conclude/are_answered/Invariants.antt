use Rattle.std.proofs.Common.{drop}
use Rattle.recorder.specs.Recorded.{AreAnswered}
use Rattle.recorder.proofs.conclude.are_answered.Given as goal

abbrev pub invariant-loop-row : goal.invariant-loop-row
invariant-loop-row l = AreAnswered (drop l.row-index l.rows) → AreAnswered l.rows
