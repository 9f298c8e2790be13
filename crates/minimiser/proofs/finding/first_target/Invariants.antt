use Rattle.std.proofs.Common.{All, take}
use Rattle.std.specs.List.{zip}
use Rattle.minimiser.specs.Targets.{IsAsExpected}
use Rattle.minimiser.proofs.finding.first_target.Given as goal

-- the threads so far saw what their texts expect
abbrev pub invariant-loop-thread : goal.invariant-loop-thread
invariant-loop-thread l = All IsAsExpected (take l.thread (zip l.texts l.transcripts))
