use Rattle.std.proofs.Common.{◌∙◌, sym, arith}
use Rattle.answered_calls.proofs.Turns.{at_first, blocked_by_one, of_another, of_this, outcomes_by_one}
use Rattle.answered_calls.proofs.Turns.{past_blocked, past_reply}
use Rattle.answered_calls.proofs.ways.ways_of.Goals as goal

pub loop-i-init : goal.loop-i-init
loop-i-init c = record {
  walked = rw (c.unknown-way.ensures, c.new-ways.ensures.items) (at_first _);
  few = omega arith;
  blocked = rw c.unknown-way.ensures (omega arith);
}

pub loop-i-preserved-then-not-is_of : goal.loop-i-preserved-then-not-is_of
loop-i-preserved-then-not-is_of c =
    let so_far = c.loop-i.invariant in
    let other = sym c.is_of.ensures ∙ c.if-not-is_of.true in
    record {
      walked = rw (of_another _ _ _ _ c.loop-i-test.true c.index-history-i.is other) at so_far.walked;
      few = omega (arith, so_far.few);
      blocked = omega (arith, so_far.blocked);
    }

pub loop-i-preserved-then-not-has_reply : goal.loop-i-preserved-then-not-has_reply
loop-i-preserved-then-not-has_reply c =
    let so_far = c.loop-i.invariant in
    let own = sym c.is_of.ensures ∙ c.if-not-is_of.false in
    let here = rw (of_this _ _ _ _ c.loop-i-test.true c.index-history-i.is own) at so_far.walked in
    let none = sym c.has_reply.ensures ∙ c.if-not-has_reply.true in
    rw (c.with_turn-way.ensures, c.outcomes_with-outcomes.ensures) (record {
      walked = past_blocked _ _ _ _ _ _ none here;
      few = omega (arith, so_far.few, outcomes_by_one c.loop-i.outcomes c.index-history-i.result);
      blocked = omega (
        arith,
        so_far.blocked,
        blocked_by_one c.loop-i.way c.loop-i.outcomes c.index-history-i.result,
      );
    })

pub loop-i-preserved : goal.loop-i-preserved
loop-i-preserved c =
    let so_far = c.loop-i.invariant in
    let own = sym c.is_of.ensures ∙ c.if-not-is_of.false in
    let here = rw (of_this _ _ _ _ c.loop-i-test.true c.index-history-i.is own) at so_far.walked in
    let reply = sym c.has_reply.ensures ∙ c.if-not-has_reply.false in
    rw (
      c.unknown-way-in-loop-i.ensures,
      c.outcomes_with-outcomes.ensures,
      c.in_ok-push.ensures.items,
      c.with_turn-way.ensures,
    ) (record {
      walked = past_reply _ _ _ _ _ _ reply here;
      few = omega (arith, so_far.few, outcomes_by_one c.loop-i.outcomes c.index-history-i.result);
      blocked = omega arith;
    })
