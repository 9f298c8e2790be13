use Rattle.std.proofs.Common.{◌≡◌, ◌++◌, drop}
use Rattle.explorer.proofs.copies.given_copied.Given as goal

abbrev pub invariant-loop-one : goal.invariant-loop-one
invariant-loop-one l = l.copied.items ++ drop l.one-index l.given ≡ l.given
