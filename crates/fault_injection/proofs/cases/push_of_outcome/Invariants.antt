use Rattle.std.proofs.Common.{◌≡◌, ◌++◌, drop, map}
use Rattle.fault_injection.specs.declared.cases.FaultCase.{FaultCase}
use Rattle.fault_injection.specs.declared.injected.Injected.{Injected}
use Rattle.fault_injection.proofs.cases.push_of_outcome.Given as goal

-- the cases so far, and those of what is still to be tried
abbrev pub invariant-loop-injected : goal.invariant-loop-injected
invariant-loop-injected l =
    let case_of : Injected → FaultCase =
    λ one. record { thread = l.place.thread; number = l.place.number; injected = one } in
    l.cases.items ++ map case_of (drop l.injected-index l.injected-items)
    ≡ l.initial.cases.items ++ map case_of l.injected-items
