use Rattle.detio_c.proofs.Attempting.{another, first}
use Rattle.detio_c.proofs.session.attempts.Goals as goal

-- src/session.rt:498:5
pub loop-init : goal.loop-init
loop-init c = first c.in_ok-attempt.field-0 c.args.machine.now c.attempt.new.machine c.if-not-branch.false
    c.in_ok-attempt.ensures.attempt

-- src/session.rt:498:5
pub loop-preserved : goal.loop-preserved
loop-preserved c = another c.in-Ok-true.field-0 c.args.machine.now c.loop.machine c.attempt-in-loop.new.machine
    c.loop.invariant c.in-Ok-true.field-0-test c.in-Ok-true.ensures.attempt
