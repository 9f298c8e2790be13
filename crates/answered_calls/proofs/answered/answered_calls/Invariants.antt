use Rattle.std.proofs.Common.{◌≡◌, ◌++◌, drop, map}
use Rattle.answered_calls.specs.Answered.{answered_calls}
use Rattle.answered_calls.specs.Seen.{seen}
use Rattle.answered_calls.proofs.answered.answered_calls.Given as goal

abbrev pub invariant-loop-thread : goal.invariant-loop-thread
invariant-loop-thread l =
    map seen l.calls.items
    ++ answered_calls l.thread l.texts l.history (drop l.thread l.transcripts)
    ≡ answered_calls 0 l.texts l.history l.transcripts
