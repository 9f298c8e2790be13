use Rattle.std.proofs.Common.{◌≡◌, drop}
use Rattle.worker_notes.specs.Agrees.{replies_in, replies_noted}
use Rattle.worker_notes.proofs.agreement.are_replies.Given as goal

abbrev pub invariant-loop-row : goal.invariant-loop-row
invariant-loop-row l = record {
  on : replies_noted l.rest ≡ replies_in l.thread (drop l.row-index l.rows)
      → replies_noted l.notes ≡ replies_in l.thread l.rows;
  back : replies_noted l.notes ≡ replies_in l.thread l.rows
      → replies_noted l.rest ≡ replies_in l.thread (drop l.row-index l.rows);
}
