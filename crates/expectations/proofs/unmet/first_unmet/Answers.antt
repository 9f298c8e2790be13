use Rattle.std.proofs.Common.{ℕ, [], ◌∷◌, ◌++◌, All, subst, arith, append_assoc, length-append}
use Rattle.std.proofs.lemmas.List.Elements.{All-push}
use Rattle.posix_terms.specs.declared.reply.Reply.{Reply}
use Rattle.expectations.specs.Unmet.{AreMet}
use Rattle.expectations.proofs.Rows.{no_more, one_more, first_at}
use Rattle.expectations.proofs.unmet.first_unmet.Goals as goal

pub returns-then-not-branch : goal.returns-then-not-branch
returns-then-not-branch c =
    let so_far = c.loop-row.invariant in
    let none = rw c.if-not-branch.true at c.in_ok-to_next_call.ensures.call in
    subst (All (AreMet c.args.expectations.now)) (no_more _ _ _ _ _ _ c.loop-row-test.true so_far.whole none) so_far.met

pub returns-in-Some : goal.returns-in-Some
returns-in-Some c =
    let so_far = c.loop-row.invariant in
    let some = rw c.if-not-branch.false at c.in_ok-to_next_call.ensures.call in
    let calls = one_more _ _ _ _ _ _ _ _ c.loop-row-test.true c.index-rows-row.is so_far.whole some in
    let here = rw (c.in-Some.is, c.place.ensures, ← c.index-rows-row.is) at c.first_of_call.ensures in
    first_at _ _ _ _ _ _ _ calls so_far.count so_far.met here

pub loop-row-preserved : goal.loop-row-preserved
loop-row-preserved c =
    let so_far = c.loop-row.invariant in
    let some = rw c.if-not-branch.false at c.in_ok-to_next_call.ensures.call in
    let calls = one_more _ _ _ _ _ _ _ _ c.loop-row-test.true c.index-rows-row.is so_far.whole some in
    let call : ℕ × Reply = (c.to_next_call.new.actor.place, c.index-rows-row.result.reply) in
    let met = rw (c.in_default.is, c.place.ensures, ← c.index-rows-row.is) at c.first_of_call.ensures in
    record {
      front = so_far.front ++ call ∷ [];
      whole = rw (append_assoc, ← c.index-rows-row.is) calls;
      count = omega (arith, length-append so_far.front (call ∷ []));
      met = All-push (AreMet c.args.expectations.now) so_far.front call so_far.met met;
    }
