use Rattle.detio_c.specs.Promise.{LeadsBy}
use Rattle.detio_c.proofs.session.attempts.Given as goal

-- after the first attempt, and perhaps more
abbrev pub invariant-loop : goal.invariant-loop
invariant-loop l = LeadsBy 1 l.fn.machine l.machine
