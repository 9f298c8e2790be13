use Rattle.std.proofs.Common.{◌∙◌, rules, sym, subst}
use Rattle.detio_c.specs.Promise.{HasAttempted}
use Rattle.detio_c.specs.Refused.{RefusesAttempt}
use Rattle.detio_c.proofs.Attempting.{has_attempted}
use Rattle.detio_c.proofs.Refusing.{attempt, both}
use Rattle.detio_c.proofs.session.attempt.Goals as goal
use Rattle.detio_c.proofs.session.attempt.Goals.{in-WantsTable, in-WantsObject}

-- src/session.rt:509:1
pub returns-in-Ok-clause-attempt : goal.returns-in-Ok-clause-attempt
returns-in-Ok-clause-attempt c = elim c.match-phase.branch [
  | in-WantsTable w ↦ subst (HasAttempted c.args.machine.now) (sym w.machine-is)
      (has_attempted _ c.args.machine.now _ c.turn_holder.ensures.holder c.in-Some.is (sym w.made-is ∙ c.in-Ok.is)
      w.try_table-made.ensures.event w.try_table-made.ensures.rest)
  | in-WantsObject w ↦ subst (HasAttempted c.args.machine.now) (sym w.machine-is)
      (has_attempted _ c.args.machine.now _ c.turn_holder.ensures.holder c.in-Some.is (sym w.made-is ∙ c.in-Ok.is)
      w.try_node-made.ensures.event w.try_node-made.ensures.rest)
]

pub returns-in-Err-clause-why : goal.returns-in-Err-clause-why
returns-in-Err-clause-why c =
    let m = c.args.machine.now in
    let turn = sym c.turn_holder.ensures.holder ∙ c.in-Some.is in
    subst (λ f. RefusesAttempt f m) (sym c.fault_of.ensures) (elim c.match-phase.branch [
      | in-WantsTable w ↦ attempt _ c.in-Some.i w.try_table-made.result c.in-Err.refused m _ turn (search rules)
          (both _ _ _ (search rules) turn) w.try_table-made.ensures.memory w.try_table-made.ensures.event
          (sym w.made-is ∙ c.in-Err.is)
      | in-WantsObject w ↦ attempt _ c.in-Some.i w.try_node-made.result c.in-Err.refused m _ turn (search rules)
          (both _ _ _ (search rules) turn) w.try_node-made.ensures.memory w.try_node-made.ensures.event
          (sym w.made-is ∙ c.in-Err.is)
    ])
