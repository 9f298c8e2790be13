use Rattle.std.proofs.Common.{All, take}
use Rattle.std.specs.List.{zip}
use Rattle.command_inputs.specs.Expects.{IsAsExpected}
use Rattle.command_inputs.proofs.expecting.first_unmet_line.Given as goal

-- the threads so far saw what their texts expect
abbrev pub invariant-loop-thread : goal.invariant-loop-thread
invariant-loop-thread l =
    All IsAsExpected (take l.thread (zip l.texts l.transcripts))
