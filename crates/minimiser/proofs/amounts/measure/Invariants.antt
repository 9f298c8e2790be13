use Rattle.std.proofs.Common.{◌≡◌, ◌+◌, drop}
use Rattle.minimiser.specs.Amounts.{amounts_of}
use Rattle.minimiser.proofs.amounts.measure.Given as goal

-- those so far and those to come make up the whole
abbrev pub invariant-loop-i : goal.invariant-loop-i
invariant-loop-i l = record {
  threads : l.all.threads ≡ l.i;
  lines : l.all.lines + (amounts_of (drop l.i l.texts)).lines ≡ (amounts_of l.texts).lines;
  delays : l.all.delays + (amounts_of (drop l.i l.texts)).delays ≡ (amounts_of l.texts).delays;
  units : l.all.units + (amounts_of (drop l.i l.texts)).units ≡ (amounts_of l.texts).units;
}
