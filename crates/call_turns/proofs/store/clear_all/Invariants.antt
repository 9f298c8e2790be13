use Rattle.std.proofs.Common.{◌≡◌, replicate, take}
use Rattle.call_turns.specs.Bodies.{first_kept}
use Rattle.call_turns.proofs.store.clear_all.Given as goal

abbrev pub invariant-loop-i : goal.invariant-loop-i
invariant-loop-i l = take l.i l.bodies ≡ replicate l.i first_kept
