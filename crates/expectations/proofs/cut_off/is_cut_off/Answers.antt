use Rattle.std.proofs.Common.{◌∙◌, sym}
use Rattle.expectations.proofs.Cutting.{next_call, no_call}
use Rattle.expectations.proofs.cut_off.is_cut_off.Goals as goal

pub returns-then-not-branch : goal.returns-then-not-branch
returns-then-not-branch c =
    let none = rw c.if-not-branch.true at c.in_ok-to_next_call.ensures.call in
    sym (no_call _ _ _ _ _ c.loop-row-test.true none) ∙ c.loop-row.invariant

pub loop-row-preserved : goal.loop-row-preserved
loop-row-preserved c =
    let some = rw c.if-not-branch.false at c.in_ok-to_next_call.ensures.call in
    rw (← c.index-rows-row.is)
    (sym (next_call _ _ _ _ _ _ _ c.loop-row-test.true c.index-rows-row.is some)
    ∙ c.loop-row.invariant)
