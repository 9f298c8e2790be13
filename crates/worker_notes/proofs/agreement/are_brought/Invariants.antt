use Rattle.std.proofs.Common.{◌≡◌, drop}
use Rattle.worker_notes.specs.Agrees.{brought_in}
use Rattle.worker_notes.proofs.agreement.are_brought.Given as goal

abbrev pub invariant-loop-row : goal.invariant-loop-row
invariant-loop-row l = record {
  on : l.rest ≡ brought_in l.thread (drop l.row-index l.rows) → l.notes ≡ brought_in l.thread l.rows;
  back : l.notes ≡ brought_in l.thread l.rows → l.rest ≡ brought_in l.thread (drop l.row-index l.rows);
}
