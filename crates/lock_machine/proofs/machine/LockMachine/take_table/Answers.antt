use Rattle.std.proofs.Common.{◌≡◌, Bool, true, false, refl, subst, rules}
use Rattle.lock_machine.specs.Refusals.{Rests}
use Rattle.lock_machine.specs.Shows.{Attempts}
use Rattle.lock_machine.proofs.machine.LockMachine.take_table.Goals as goal

pub returns-then-not-attempt_table-clause-event : goal.returns-then-not-attempt_table-clause-event
returns-then-not-attempt_table-clause-event c =
    let w = c.args.self.now in
    let made : c.attempt_table.result ≡ false = search rules in
    let P : Bool → Type 0 = λ b. Attempts b c.args.i w c.attempt_table.new.self in
    let R : Bool → Type 0 = λ b. Rests b w c.attempt_table.new.self in
    (refl, subst R made c.attempt_table.ensures.rests, subst P made c.attempt_table.ensures.event)

pub returns-clause-event : goal.returns-clause-event
returns-clause-event c =
    let made : c.attempt_table.result ≡ true = search rules in
    let P : Bool → Type 0 = λ b. Attempts b c.args.i c.args.self.now c.attempt_table.new.self in
    (refl, subst P made c.attempt_table.ensures.event)
