use Rattle.std.specs.Prelude.{IsTrue, ◌↔◌}
use Rattle.std.proofs.Common.{◌≡◌, ◌≤◌, length, vec_capacity}
use Rattle.recorder.specs.Recorded.{IsWhole, transcripts_of}
use Rattle.recorder.proofs.Seen.{Begin}
use Rattle.recorder.proofs.transcripts.seen_by.Given as goal

abbrev pub invariant-loop-thread : goal.invariant-loop-thread
invariant-loop-thread l = record {
  begin : Begin l.transcripts.items (transcripts_of l.thread l.rows);
  whole : IsTrue l.whole ↔ IsWhole l.thread l.rows l.transcripts.items;
  count : length l.transcripts.items ≡ l.thread;
  room : l.threads ≤ vec_capacity l.transcripts;
}
