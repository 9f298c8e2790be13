use Rattle.std.proofs.Common.{◌≡◌, ◌++◌, drop}
use Rattle.answered_calls.specs.Blocked.{done_from}
use Rattle.answered_calls.proofs.blocked.threads_done.Given as goal

abbrev pub invariant-loop-thread : goal.invariant-loop-thread
invariant-loop-thread l =
    l.done.items ++ done_from l.thread (drop l.thread l.texts) l.transcripts
    ≡ done_from 0 l.texts l.transcripts
