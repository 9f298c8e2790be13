use Rattle.std.proofs.Common.{◌≡◌, ◌++◌, drop}
use Rattle.call_machine.specs.History.{transcript_of}
use Rattle.call_machine.proofs.finish.transcript.Given as goal

abbrev pub invariant-loop-row : goal.invariant-loop-row
invariant-loop-row l = l.own.items ++ transcript_of l.thread (drop l.row-index l.rows) ≡ transcript_of l.thread l.rows
