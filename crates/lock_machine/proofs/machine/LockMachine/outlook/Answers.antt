use Rattle.std.proofs.Common.{◌≡◌, sym, ap, ◌∙◌, subst, rules}
use Rattle.lock_machine.specs.Refusals.{outlook}
use Rattle.lock_machine.specs.Shows.{RecordsGiven, has_moved}
use Rattle.lock_machine.specs.Whole.{thread_at}
use Rattle.lock_machine.specs.declared.outside.Progress.{Progress}
use Rattle.lock_machine.specs.declared.thread.Phase.TheVariants as phase
use Rattle.lock_machine.proofs.Resting.{outlook_event}
use Rattle.lock_machine.proofs.machine.LockMachine.outlook.Goals as goal

pub returns-clause-event : goal.returns-clause-event
returns-clause-event c outside stays =
    let w = c.args.self.now in
    let i = c.args.i in
    let g = c.args.given.now in
    let is : (thread_at w i).phase ≡ phase.Outside c.in-Outside.outing = sym c.phase.ensures ∙ c.in-Outside.is in
    let seen : c.outlook.result ≡ outlook w i g = search rules in
    let P : Progress → Type 0 = λ p. RecordsGiven p i g w w in
    subst P (sym seen) (outlook_event c.requests_asked.ensures.little c.arising_states.ensures.rows
    c.arising_states.ensures.plans w i c.in-Outside.outing g c.requires is (sym (ap has_moved seen) ∙ stays))
