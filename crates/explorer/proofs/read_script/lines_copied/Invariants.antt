use Rattle.std.proofs.Common.{◌≡◌, ◌++◌, drop}
use Rattle.explorer.proofs.read_script.lines_copied.Given as goal

abbrev pub invariant-loop-line : goal.invariant-loop-line
invariant-loop-line l = l.copied.items ++ drop l.line-index l.lines ≡ l.lines
