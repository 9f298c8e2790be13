use Rattle.std.proofs.Common.{◌≡◌, ◌+◌, drop, map}
use Rattle.minimiser.specs.Amounts.{count_delays, sum_units}
use Rattle.minimiser.proofs.amounts.thread_amounts.Given as goal

-- those so far and those to come make up the whole
abbrev pub invariant-loop-i : goal.invariant-loop-i
invariant-loop-i l = record {
  threads : l.all.threads ≡ 1;
  lines : l.all.lines ≡ l.i;
  delays : l.all.delays + count_delays (map (λ line. line.now) (drop l.i l.lines.items))
      ≡ count_delays (map (λ line. line.now) l.lines.items);
  units : l.all.units + sum_units (map (λ line. line.now) (drop l.i l.lines.items))
      ≡ sum_units (map (λ line. line.now) l.lines.items);
}
