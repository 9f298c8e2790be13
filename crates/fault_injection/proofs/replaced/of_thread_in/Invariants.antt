use Rattle.std.proofs.Common.{◌≡◌, ◌++◌, drop, map}
use Rattle.std.specs.List.{enumerate_from}
use Rattle.fault_injection.specs.Replaced.{given_in, of_thread_in}
use Rattle.fault_injection.proofs.replaced.of_thread_in.Given as goal

-- the outcomes so far, and those from this number on
abbrev pub invariant-loop-number : goal.invariant-loop-number
invariant-loop-number l =
    l.replaced.items
    ++ map (given_in l.case l.thread) (enumerate_from l.number (drop l.number l.outcomes))
    ≡ of_thread_in l.case (l.thread, l.outcomes)
