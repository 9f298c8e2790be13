use Rattle.std.proofs.Common.{◌≡◌, true, rules}
use Rattle.lock_machine.specs.Refusals.{phase_at, works}
use Rattle.lock_machine.specs.Shows.{AsksFor}
use Rattle.posix_terms.specs.declared.step.Step.TheVariants as step
use Rattle.lock_machine.proofs.Refusing.{comes_moved, moved_rests}
use Rattle.lock_machine.proofs.machine.LockMachine.end.Goals as goal

pub returns-clause-event : goal.returns-clause-event
returns-clause-event c =
    let w = c.args.self.now in
    let i = c.args.i in
    let new = c.end_working.new.self in
    let there : works (phase_at w i) ≡ true = search rules in
    comes_moved (works (phase_at w i)) c.end_working.result c.moved.result w new (λ b. AsksFor b i step.End w new) there
    c.moved.ensures.made c.moved.ensures.full c.end_working.ensures.rests c.end_working.ensures.event

pub returns-clause-err : goal.returns-clause-err
returns-clause-err c = moved_rests c.end_working.result c.moved.result c.args.self.now c.end_working.new.self
    c.moved.ensures.made c.end_working.ensures.rests
