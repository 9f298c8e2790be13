-- Believed: a contract of the headline stands on it.
-- How an outside counts what it gives.
use Rattle.std.specs.Prelude.{ℕ, ◌+◌}
use Rattle.posix_terms.specs.declared.outcome.Outcome.{Outcome}
use Rattle.posix_terms.specs.declared.outcome.Outcome.TheVariants as outcome
use Rattle.host_doors.specs.declared.counts.Counts.{Counts}

-- a failure is counted, and a success is none
abbrev pub failures_after : Outcome → ℕ → ℕ
failures_after (outcome.Ok value bytes) failures = failures
failures_after (outcome.Fail error) failures = failures + 1

-- the counts after one more outcome
abbrev pub counted : Counts → Outcome → Counts
counted counts o = record { given = counts.given + 1; failures = failures_after o counts.failures }
