use Rattle.std.proofs.Common.{◌≤◌, drop}
use Rattle.answered_calls.specs.Ways.{turns_of, ways_of}
use Rattle.answered_calls.proofs.Turns.{Walked}
use Rattle.answered_calls.proofs.ways.ways_of.Given as goal

abbrev pub invariant-loop-i : goal.invariant-loop-i
invariant-loop-i l = record {
  walked : Walked l.way l.outcomes l.ways.items (turns_of l.thread (drop l.i l.history))
      (ways_of l.thread l.history);
  few : l.outcomes ≤ l.i;
  blocked : l.way.blocked ≤ l.i;
}
