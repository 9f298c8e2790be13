-- Believed: a contract of the headline stands on it.
-- What a call of an outside needs and gives.
use Rattle.std.specs.Prelude.{◌≡◌, ◌+◌, ◌-◌, ◌^◌, ◌<◌, ℕ, true}
use Rattle.posix_terms.specs.Outcomes.{fits}
use Rattle.posix_terms.specs.declared.outcome.Outcome.{Outcome}
use Rattle.posix_terms.specs.declared.request.Request.{Request}
use Rattle.host_doors.specs.Counting.{failures_after}

-- one more outcome and one more failure can be counted
abbrev pub CanCount : ℕ → ℕ → Type 0
CanCount given failures = (given < 2 ^ 64 - 1) × (failures < 2 ^ 64 - 1)

-- one outcome is given: it answers the request, the outside may
-- give it there, it is counted, and so is a failure
pub record GivesOne {O : Type 0} (given failures : O → ℕ) (gives : O → ℕ → Request → Outcome → O
    → Type 0)
    (old : O) (number : ℕ) (request : Request) (o : Outcome) (new : O) : Type 0 where
  pub fits : fits request.kind request.asked o ≡ true
  pub allowed : gives old number request o new
  pub counted : given new ≡ given old + 1
  pub failed : failures new ≡ failures_after o (failures old)
