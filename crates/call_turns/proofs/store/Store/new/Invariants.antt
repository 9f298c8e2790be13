use Rattle.std.proofs.Common.{◌≡◌, replicate}
use Rattle.call_turns.specs.Bodies.{first_kept}
use Rattle.call_turns.proofs.store.Store.new.Given as goal

abbrev pub invariant-loop : goal.invariant-loop
invariant-loop l = l.bodies.items ≡ replicate l.counter first_kept
