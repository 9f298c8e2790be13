use Rattle.std.proofs.Common.{◌≡◌, [], replicate}
use Rattle.command_inputs.proofs.outcomes.no_outcomes.Given as goal

abbrev pub invariant-loop : goal.invariant-loop
invariant-loop l = l.outcomes.items ≡ replicate l.counter []
