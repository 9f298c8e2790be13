use Rattle.std.proofs.Common.{◌≡◌, ◌≤◌, ◌<◌, length, map, refl, rules, arith}
use Rattle.std.proofs.lemmas.Option.{slice_get_read}
use Rattle.comparator.specs.Counted.{counted}
use Rattle.comparator.proofs.Threads.{not_there, only_there, other_rows}
use Rattle.comparator.proofs.verdict.verdict_on.Goals as goal

pub returns-in_default : goal.returns-in_default
returns-in_default c =
    let some = c.args.some.now in
    let others = c.args.others.now in
    let thread = c.loop-thread.thread in
    let past : length others ≤ thread = search rules in
    not_there (map (counted c.args.turns)) some others thread c.index-some-thread.result
    c.loop-thread.invariant
    (slice_get_read some (length some) thread c.index-some-thread.result refl c.loop-thread-test.true
    c.index-some-thread.is)
    past

pub returns-in-Some-first_difference : goal.returns-in-Some-first_difference
returns-in-Some-first_difference c =
    let some = c.args.some.now in
    let others = c.args.others.now in
    let thread = c.loop-thread.thread in
    let within : thread < length others = search rules in
    other_rows (map (counted c.args.turns)) some others thread c.in-Some-first_difference.row
    c.index-some-thread.result c.in-Some.other.now c.loop-thread.invariant
    (slice_get_read some (length some) thread c.index-some-thread.result refl c.loop-thread-test.true
    c.index-some-thread.is)
    (slice_get_read others (length others) thread c.in-Some.other.now refl within (search rules))
    (search rules)

pub returns-then-some-others : goal.returns-then-some-others
returns-then-some-others c =
    let thread-is : c.loop-thread.thread ≡ length c.args.some.now =
    omega (arith, c.loop-thread-test.false, c.loop-thread.auto.thread-end) in
    only_there (map (counted c.args.turns)) c.args.some.now c.args.others.now (length c.args.some.now)
    (rw thread-is at c.loop-thread.invariant) (omega arith) c.if-some-others.true
