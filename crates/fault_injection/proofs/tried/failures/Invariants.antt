use Rattle.std.proofs.Common.{◌≡◌, ◌++◌, drop}
use Rattle.fault_injection.specs.Tried.{failures}
use Rattle.fault_injection.proofs.tried.failures.Given as goal

-- the failures so far, and those of the errors that are left
abbrev pub invariant-loop-error : goal.invariant-loop-error
invariant-loop-error l =
    l.injected.items ++ failures (drop l.error-index l.errors) l.outcome
    ≡ failures l.errors l.outcome
