use Rattle.std.proofs.Common.{◌≡◌, true, sym, ap, ◌∙◌}
use Rattle.lock_machine.specs.Refusals.{goes_outside, phase_at}
use Rattle.lock_machine.specs.Shows.{AdvancesQuietly}
use Rattle.lock_machine.proofs.Refusing.{comes_moved, moved_rests}
use Rattle.lock_machine.proofs.machine.LockMachine.begin_outside.Goals as goal

pub returns-clause-event : goal.returns-clause-event
returns-clause-event c =
    let w = c.args.self.now in
    let i = c.args.i in
    let new = c.go_outside.new.self in
    let there : goes_outside (phase_at w i) ≡ true = ap goes_outside (sym c.phase.ensures ∙ c.in-ToOutside.is) in
    comes_moved (goes_outside (phase_at w i)) c.go_outside.result c.moved.result w new (λ b. AdvancesQuietly b i w new)
    there c.moved.ensures.made c.moved.ensures.full c.go_outside.ensures.rests c.go_outside.ensures.event

pub returns-clause-err : goal.returns-clause-err
returns-clause-err c = moved_rests c.go_outside.result c.moved.result c.args.self.now c.go_outside.new.self
    c.moved.ensures.made c.go_outside.ensures.rests
