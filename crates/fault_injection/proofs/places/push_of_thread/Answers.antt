use Rattle.std.proofs.Common.{◌∙◌, ◌<◌, ap, arith, length, rules, sym}
use Rattle.std.specs.Prelude.{is_some}
use Rattle.posix_terms.specs.Calls.{Call}
use Rattle.fault_injection.specs.Places.{object_of}
use Rattle.fault_injection.proofs.Walking.{at_row, by_one, past_again, past_other, past_reply}
use Rattle.fault_injection.proofs.places.push_of_thread.Goals as goal

pub loop-row-preserved-then-not-is_of : goal.loop-row-preserved-then-not-is_of
loop-row-preserved-then-not-is_of c =
    let so_far = c.loop-row.invariant in
    let inside : c.loop-row.row-index < length c.args.history.now = search rules in
    let other = sym c.is_of.ensures ∙ c.if-not-is_of.true in
    let here = rw (at_row _ _ _ inside c.row-item.is) at so_far.walked in
    record {
      walked = past_other _ _ _ _ _ _ _ _ _ other c.in_ok-pass.ensures here;
      few = omega (arith, so_far.few);
    }

pub loop-row-preserved-then-not-has_reply : goal.loop-row-preserved-then-not-has_reply
loop-row-preserved-then-not-has_reply c =
    let so_far = c.loop-row.invariant in
    let inside : c.loop-row.row-index < length c.args.history.now = search rules in
    let own = sym c.is_of.ensures ∙ c.if-not-is_of.false in
    let none = sym c.has_reply.ensures ∙ c.if-not-has_reply.true in
    let here = rw (at_row _ _ _ inside c.row-item.is) at so_far.walked in
    record {
      walked = past_again _ _ _ _ _ _ _ _ _ _ _ _ c.last_with-last.ensures
          c.outcomes_with-number.ensures own none
          (λ past are. c.of_call-object.ensures past are
          ∙ ap (λ (k : Call). object_of k past) c.call.ensures)
          c.in_ok-pass.ensures here;
      few = rw c.outcomes_with-number.ensures
          (by_one (is_some c.row-item.result.outcome) c.loop-row.number c.loop-row.row-index so_far.few);
    }

pub loop-row-preserved : goal.loop-row-preserved
loop-row-preserved c =
    let so_far = c.loop-row.invariant in
    let inside : c.loop-row.row-index < length c.args.history.now = search rules in
    let own = sym c.is_of.ensures ∙ c.if-not-is_of.false in
    let reply = sym c.has_reply.ensures ∙ c.if-not-has_reply.false in
    let here = rw (at_row _ _ _ inside c.row-item.is) at so_far.walked in
    record {
      walked = rw c.in_ok-push_some.ensures
          (past_reply _ _ _ _ _ _ _ _ _ _ _ _ c.last_with-last.ensures
          c.outcomes_with-number.ensures own reply
          (λ past are. c.of_call-object.ensures past are
          ∙ ap (λ (k : Call). object_of k past) c.call.ensures)
          c.in_ok-pass.ensures here);
      few = rw c.outcomes_with-number.ensures
          (by_one (is_some c.row-item.result.outcome) c.loop-row.number c.loop-row.row-index so_far.few);
    }
