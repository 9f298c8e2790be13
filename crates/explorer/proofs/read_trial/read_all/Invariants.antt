use Rattle.std.proofs.Common.{◌≡◌, ◌++◌, drop}
use Rattle.explorer.proofs.read_trial.read_all.Given as goal

abbrev pub invariant-loop-text : goal.invariant-loop-text
invariant-loop-text l = l.scripts.items ++ drop l.text-index l.texts ≡ l.texts
