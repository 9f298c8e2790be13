use Rattle.std.proofs.Common.{◌≡◌, ◌++◌, drop}
use Rattle.machine.specs.History.{transcript_of}
use Rattle.recorder.proofs.transcripts.fill.Given as goal

abbrev pub invariant-loop-row : goal.invariant-loop-row
invariant-loop-row l = l.transcript ++ transcript_of l.thread (drop l.row-index l.rows) ≡ transcript_of l.thread l.rows
