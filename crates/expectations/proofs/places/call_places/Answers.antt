use Rattle.expectations.proofs.Placing.{no_place, one_place}
use Rattle.expectations.proofs.places.call_places.Goals as goal

pub returns-then-not-branch : goal.returns-then-not-branch
returns-then-not-branch c =
    let none = rw c.if-not-branch.true at c.in_ok-to_next_call.ensures.call in
    no_place _ _ _ _ _ _ c.loop-row-test.true c.loop-row.invariant none

pub loop-row-preserved : goal.loop-row-preserved
loop-row-preserved c =
    let some = rw c.if-not-branch.false at c.in_ok-to_next_call.ensures.call in
    rw (← c.index-rows-row.is, c.in_ok-push_place.ensures, c.place.ensures)
    (one_place _ _ _ _ _ _ _ _ c.loop-row-test.true c.index-rows-row.is c.loop-row.invariant some)
