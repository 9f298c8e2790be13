use Rattle.expectations.proofs.Placing.{no_next}
use Rattle.expectations.proofs.places.next_call_place.Goals as goal

pub returns-then-not-branch : goal.returns-then-not-branch
returns-then-not-branch c =
    let none = rw c.if-not-branch.true at c.in_ok-to_next_call.ensures.call in
    no_next _ _ _ _ _ c.loop-row-test.true c.loop-row.invariant none
