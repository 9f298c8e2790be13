use Rattle.std.proofs.Common.{◌∙◌, ◌∷◌, ◌+◌, drop, length, arith, sym}
use Rattle.deadlocks.proofs.Moments.{free_next, in_within, next_row, stuck_next, within_next}
use Rattle.deadlocks.proofs.blocked.blocked_for_good.Goals as goal

pub are_stuck-requires : goal.are_stuck-requires
are_stuck-requires c =
    let so_far = c.loop-row.invariant in
    let next = next_row c.loop-row.row-index c.row-item.result c.args.history.now c.loop-row-test.true c.row-item.is in
    let within = within_next (length c.args.ended.now) c.loop-row.row-index c.row-item.result c.args.history.now
    c.loop-row-test.true c.row-item.is so_far.within in
    (c.pass.ensures (length c.args.ended.now) so_far.past (drop (c.loop-row.row-index + 1) c.args.history.now)
    (rw next at so_far.places) within.0).count

pub waiting_calls-requires : goal.waiting_calls-requires
waiting_calls-requires c =
    let so_far = c.loop-row.invariant in
    let next = next_row c.loop-row.row-index c.row-item.result c.args.history.now c.loop-row-test.true c.row-item.is in
    let within = within_next (length c.args.ended.now) c.loop-row.row-index c.row-item.result c.args.history.now
    c.loop-row-test.true c.row-item.is so_far.within in
    (c.pass.ensures (length c.args.ended.now) so_far.past (drop (c.loop-row.row-index + 1) c.args.history.now)
    (rw next at so_far.places) within.0).count

pub returns-then-are_stuck : goal.returns-then-are_stuck
returns-then-are_stuck c =
    let so_far = c.loop-row.invariant in
    let later = drop (c.loop-row.row-index + 1) c.args.history.now in
    let next = next_row c.loop-row.row-index c.row-item.result c.args.history.now c.loop-row-test.true c.row-item.is in
    let within = within_next (length c.args.ended.now) c.loop-row.row-index c.row-item.result c.args.history.now
    c.loop-row-test.true c.row-item.is so_far.within in
    let places = c.pass.ensures (length c.args.ended.now) so_far.past later (rw next at so_far.places) within.0 in
    let stuck = sym (c.are_stuck.ensures (c.row-item.result ∷ so_far.past) later places) ∙ c.if-are_stuck.true in
    let is = stuck_next c.args.ended.now c.row-item.result so_far.past later stuck ∙ (rw next at so_far.whole)
    ∙ in_within c.args.ended.now c.args.history.now (sym c.are_within.ensures ∙ c.if-not-are_within.false) in
    c.in_ok-calls.ensures (c.row-item.result ∷ so_far.past) later places ∙ is

pub loop-row-preserved : goal.loop-row-preserved
loop-row-preserved c =
    let so_far = c.loop-row.invariant in
    let later = drop (c.loop-row.row-index + 1) c.args.history.now in
    let next = next_row c.loop-row.row-index c.row-item.result c.args.history.now c.loop-row-test.true c.row-item.is in
    let within = within_next (length c.args.ended.now) c.loop-row.row-index c.row-item.result c.args.history.now
    c.loop-row-test.true c.row-item.is so_far.within in
    let places = c.pass.ensures (length c.args.ended.now) so_far.past later (rw next at so_far.places) within.0 in
    let free = sym (c.are_stuck.ensures (c.row-item.result ∷ so_far.past) later places) ∙ c.if-are_stuck.false in
    record {
      past = c.row-item.result ∷ so_far.past;
      count = omega (arith, so_far.count);
      within = within.1;
      places = places;
      whole = free_next c.args.ended.now c.row-item.result so_far.past later free ∙ (rw next at so_far.whole);
    }
