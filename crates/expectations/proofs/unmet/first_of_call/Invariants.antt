use Rattle.std.proofs.Common.{take}
use Rattle.expectations.specs.Unmet.{AreMet}
use Rattle.expectations.proofs.unmet.first_of_call.Given as goal

-- those so far are met
abbrev pub invariant-loop-n : goal.invariant-loop-n
invariant-loop-n l = AreMet (take l.n l.expectations) (l.place, l.reply)
