use Rattle.std.proofs.Common.{◌≡◌, ◌≤◌, [], vec_capacity, length}
use Rattle.recorder.specs.Recorded.{transcripts_of}
use Rattle.recorder.proofs.Gathering.{AreEmpty}
use Rattle.recorder.proofs.run.without_log.Given as goal

abbrev pub invariant-loop : goal.invariant-loop
invariant-loop g l = record {
  own_count : length l.own.items ≡ l.counter;
  own_room : l.end ≤ vec_capacity l.own;
  empty : AreEmpty l.own.items;
  count : length l.transcripts.items ≡ l.counter;
  room : l.end ≤ vec_capacity l.transcripts;
  transcripts : l.transcripts.items ≡ transcripts_of l.counter [];
}
