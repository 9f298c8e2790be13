use Rattle.std.proofs.Common.{◌≡◌}
use Rattle.std.specs.Prelude.{All}
use Rattle.recorder_tests.proofs.outcomes.doors.Given as goal

abbrev pub invariant-loop-list : goal.invariant-loop-list
invariant-loop-list l = All (λ d. (d.counts.given ≡ 0) × (d.counts.failures ≡ 0)) l.doors.items
