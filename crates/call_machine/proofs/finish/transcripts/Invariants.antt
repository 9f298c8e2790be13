use Rattle.std.proofs.Common.{◌≡◌}
use Rattle.call_machine.specs.History.{transcripts_of}
use Rattle.call_machine.proofs.finish.transcripts.Given as goal

abbrev pub invariant-loop-thread : goal.invariant-loop-thread
invariant-loop-thread l = l.transcripts.items ≡ transcripts_of l.thread l.rows
