use Rattle.std.proofs.Common.{◌∙◌, refl, sym}
use Rattle.expectations.proofs.Calls.{at_call, at_work, at_end}
use Rattle.expectations.proofs.following.to_next_call.Goals as goal

pub returns-in-Call-clause-call : goal.returns-in-Call-clause-call
returns-in-Call-clause-call c =
    let next = c.in_ok-next in
    let is = sym c.loop-last.invariant
    ∙ at_call c.runs_end.ensures _ _ _ _ _ next.ensures.step next.ensures.after c.in-Call.is in
    rw is refl

pub returns-in-Call-clause-end : goal.returns-in-Call-clause-end
returns-in-Call-clause-end c = λ lines.
    let next = c.in_ok-next in
    let is = sym c.loop-last.invariant
    ∙ at_call c.runs_end.ensures _ _ _ _ _ next.ensures.step next.ensures.after c.in-Call.is in
    rw is refl

pub loop-last-preserved : goal.loop-last-preserved
loop-last-preserved c =
    let next = c.in_ok-next in
    at_work c.runs_end.ensures _ _ _ _ _ next.ensures.step next.ensures.after c.in-Work.is
    ∙ c.loop-last.invariant

pub returns-in-End-clause-call : goal.returns-in-End-clause-call
returns-in-End-clause-call c =
    let next = c.in_ok-next in
    let is = sym c.loop-last.invariant
    ∙ at_end c.runs_end.ensures _ _ _ _ next.ensures.step next.ensures.after c.in-End.is in
    rw is refl

pub returns-in-End-clause-end : goal.returns-in-End-clause-end
returns-in-End-clause-end c = λ lines.
    let next = c.in_ok-next in
    let is = sym c.loop-last.invariant
    ∙ at_end c.runs_end.ensures _ _ _ _ next.ensures.step next.ensures.after c.in-End.is in
    rw is refl
