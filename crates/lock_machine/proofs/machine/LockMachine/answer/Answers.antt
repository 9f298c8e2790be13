use Rattle.std.proofs.Common.{◌≡◌, true, sym, ap, ◌∙◌, subst}
use Rattle.std.specs.Prelude.{OnErr, Result}
use Rattle.posix_terms.specs.declared.reply.Answer.{Answer}
use Rattle.lock_machine.specs.Refusals.{Comes, WantsNone, has_answer, phase_at}
use Rattle.lock_machine.specs.Shows.{Tells}
use Rattle.lock_machine.specs.declared.refused.LockRefused.{LockRefused}
use Rattle.lock_machine.proofs.Refusing.{comes_given, given_rests, given_wants_none}
use Rattle.lock_machine.proofs.machine.LockMachine.answer.Goals as goal

pub returns-in-Granted-clause-event : goal.returns-in-Granted-clause-event
returns-in-Granted-clause-event c =
    let w = c.args.self.now in
    let i = c.args.i in
    let new = c.answer_granted.new.self in
    let right = has_answer (phase_at w i) in
    let there : right ≡ true = ap has_answer (sym c.phase.ensures ∙ c.in-Granted.is) in
    let P : Result Answer LockRefused → Type 0 = λ r. Comes right r w new (λ told. Tells told i w new) in
    subst P (sym c.ok_or.ensures.value)
    (comes_given right c.answer_granted.result w new (λ told. Tells told i w new) there
    c.answer_granted.ensures.rests c.answer_granted.ensures.event)

pub returns-in-Recorded-clause-event : goal.returns-in-Recorded-clause-event
returns-in-Recorded-clause-event c =
    let w = c.args.self.now in
    let i = c.args.i in
    let new = c.answer_recorded.new.self in
    let right = has_answer (phase_at w i) in
    let there : right ≡ true = ap has_answer (sym c.phase.ensures ∙ c.in-Recorded.is) in
    let P : Result Answer LockRefused → Type 0 = λ r. Comes right r w new (λ told. Tells told i w new) in
    subst P (sym c.ok_or-in-Recorded.ensures.value)
    (comes_given right c.answer_recorded.result w new (λ told. Tells told i w new) there
    c.answer_recorded.ensures.rests c.answer_recorded.ensures.event)

pub returns-in-Granted-clause-memory : goal.returns-in-Granted-clause-memory
returns-in-Granted-clause-memory c =
    let P : Result Answer LockRefused → Type 0 = λ r. WantsNone r in
    subst P (sym c.ok_or.ensures.value) (given_wants_none c.answer_granted.result)

pub returns-in-Granted-clause-err : goal.returns-in-Granted-clause-err
returns-in-Granted-clause-err c =
    let new = c.answer_granted.new.self in
    let P : Result Answer LockRefused → Type 0 = λ r. OnErr r (new ≡ c.args.self.now) in
    subst P (sym c.ok_or.ensures.value)
    (given_rests c.answer_granted.result c.args.self.now new c.answer_granted.ensures.rests)

pub returns-in-Recorded-clause-memory : goal.returns-in-Recorded-clause-memory
returns-in-Recorded-clause-memory c =
    let P : Result Answer LockRefused → Type 0 = λ r. WantsNone r in
    subst P (sym c.ok_or-in-Recorded.ensures.value) (given_wants_none c.answer_recorded.result)

pub returns-in-Recorded-clause-err : goal.returns-in-Recorded-clause-err
returns-in-Recorded-clause-err c =
    let new = c.answer_recorded.new.self in
    let P : Result Answer LockRefused → Type 0 = λ r. OnErr r (new ≡ c.args.self.now) in
    subst P (sym c.ok_or-in-Recorded.ensures.value)
    (given_rests c.answer_recorded.result c.args.self.now new c.answer_recorded.ensures.rests)
