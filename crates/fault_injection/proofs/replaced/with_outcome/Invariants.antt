use Rattle.std.proofs.Common.{◌≡◌, ◌++◌, drop, map}
use Rattle.std.specs.List.{enumerate_from}
use Rattle.fault_injection.specs.Replaced.{of_thread_in, outcomes_in}
use Rattle.fault_injection.proofs.replaced.with_outcome.Given as goal

-- the outcomes of the threads so far, and those from this thread on
abbrev pub invariant-loop-thread : goal.invariant-loop-thread
invariant-loop-thread l =
    l.replaced.items
    ++ map (of_thread_in l.case) (enumerate_from l.thread (drop l.thread l.outcomes))
    ≡ outcomes_in l.case l.outcomes
