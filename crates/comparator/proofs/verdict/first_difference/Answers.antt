use Rattle.std.proofs.Common.{◌≡◌, ◌≤◌, ◌<◌, length, refl, rules, arith}
use Rattle.std.proofs.lemmas.Option.{slice_get_read}
use Rattle.comparator.specs.Counted.{counted}
use Rattle.comparator.proofs.Differing.{none_after, ends_by, other_entry}
use Rattle.comparator.proofs.verdict.first_difference.Goals as goal

pub returns-in_default : goal.returns-in_default
returns-in_default c =
    let some = c.args.some.now in
    let others = c.args.others.now in
    let row = c.loop-row.row in
    let within : row < length others = search rules in
    other_entry (counted c.args.turns) some others row c.index-some-row.result c.in-Some.other.now
    c.loop-row.invariant
    (slice_get_read some (length some) row c.index-some-row.result refl c.loop-row-test.true
    c.index-some-row.is)
    (slice_get_read others (length others) row c.in-Some.other.now refl within (search rules))
    (search rules)

pub returns-in_default-2 : goal.returns-in_default-2
returns-in_default-2 c =
    let some = c.args.some.now in
    let others = c.args.others.now in
    let row = c.loop-row.row in
    let past : length others ≤ row = search rules in
    none_after (counted c.args.turns) some others row c.index-some-row.result c.loop-row.invariant
    (slice_get_read some (length some) row c.index-some-row.result refl c.loop-row-test.true
    c.index-some-row.is)
    past

pub returns : goal.returns
returns c =
    let row-is : c.loop-row.row ≡ length c.args.some.now =
    omega (arith, c.loop-row-test.false, c.loop-row.auto.row-end) in
    rw (c.then_some.ensures)
    (ends_by (counted c.args.turns) c.args.some.now c.args.others.now (rw row-is at c.loop-row.invariant))
