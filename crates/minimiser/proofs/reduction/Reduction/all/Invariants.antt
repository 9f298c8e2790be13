use Rattle.std.proofs.Common.{◌≡◌, ◌++◌, drop}
use Rattle.minimiser.specs.Rounds.{all_of}
use Rattle.minimiser.proofs.reduction.Reduction.all.Given as goal

abbrev pub invariant-loop-text : goal.invariant-loop-text
invariant-loop-text l = l.threads.items ++ all_of (drop l.text-index l.texts) ≡ all_of l.texts
