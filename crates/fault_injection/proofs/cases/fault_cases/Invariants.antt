use Rattle.std.proofs.Common.{◌≡◌, ◌++◌, drop}
use Rattle.fault_injection.specs.Cases.{fault_cases}
use Rattle.fault_injection.proofs.cases.fault_cases.Given as goal

-- the cases so far, and those of the places that are left
abbrev pub invariant-loop-place : goal.invariant-loop-place
invariant-loop-place l =
    l.cases.items ++ fault_cases l.choice l.outcomes (drop l.place-index l.places)
    ≡ fault_cases l.choice l.outcomes l.places
