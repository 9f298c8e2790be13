use Rattle.std.proofs.Common.{rules, ◌≡◌, ◌+◌, arith, drop, length, slice_index_or, subst, sym}
use Rattle.explorer.specs.Joining.{CaseGives}
use Rattle.explorer.proofs.ReadOnce.{written}
use Rattle.explorer.proofs.observing.observe_cases.Goals as goal

-- the case of each place was run with its part
pub returns-clause-each : goal.returns-clause-each
returns-clause-each g c i d inside =
    let len : length c.as_mut_slice-2.result.now ≡ c.args.count = search rules in
    let at = (c.for_each_chunk_mut.ensures.by_index i d (omega (arith, inside, len))).1 in
    let delays = g.D.Delays.delays_of c.args.delays.now in
    let seen = c.for_each_chunk_mut.new.s in
    let place : c.args.first + at.start + at.offset ≡ c.args.first + i =
    omega (arith, at.start_plus_offset) in
    let call = at.call in
    let gives : CaseGives c.args.trial.now delays (c.args.first + at.start + at.offset)
    (slice_index_or at.after_call.now at.offset d) = search rules in
    let same : length seen ≡ c.in_ok-seen.seen.len = search rules in
    let count : length seen ≡ c.args.count = search rules in
    subst
    (λ one. CaseGives c.args.trial.now delays (c.args.first + i) one)
    (sym
    (written seen (drop (length seen) c.in_ok-seen.seen.items) c.in_ok-seen.seen.len i d
    (omega (arith, inside, len, same, count)) same))
    (subst (λ n. CaseGives c.args.trial.now delays n (slice_index_or seen i d)) place
    (subst (λ one. CaseGives c.args.trial.now delays (c.args.first + at.start + at.offset) one)
    at.new_element gives))
