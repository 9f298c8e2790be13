use Rattle.std.proofs.Common.{drop}
use Rattle.recorder.specs.Recorded.{AreEnded}
use Rattle.recorder.proofs.conclude.are_ended.Given as goal

abbrev pub invariant-loop-notes : goal.invariant-loop-notes
invariant-loop-notes l = AreEnded (drop l.notes-index l.own) → AreEnded l.own
