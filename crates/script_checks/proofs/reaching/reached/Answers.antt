use Rattle.std.proofs.Common.{ap, length, rules, arith}
use Rattle.std.proofs.lemmas.Grind.{common_steps}
use Rattle.std.proofs.lemmas.Option.{slice_get_within}
use Rattle.script_checks.specs.Marks.{AreClosed, IsNext}
use Rattle.script_checks.proofs.Marking.{are_reached, begun, fewer_without, marked_more}
use Rattle.script_checks.proofs.reaching.reached.Goals as goal

pub loop-next-init : goal.loop-next-init
loop-next-init c = begun c.args.lines.now c.in_ok-marks.marks.items
    (c.in_ok-marks.ensures.items_if_clones_equal (search rules)) (grind (arith, common_steps))

pub index_mut-requires-in-Some : goal.index_mut-requires-in-Some
index_mut-requires-in-Some c =
    let is : IsNext c.args.lines.now c.loop-next.marks.items c.in-Some.next =
    rw (← c.deref.ensures.value) c.in-Some.ensures in
    let within = slice_get_within c.loop-next.marks.items c.in-Some.next _ is.fresh in
    omega (arith, ap length c.deref.ensures.value)

pub loop-next-smaller : goal.loop-next-smaller
loop-next-smaller c =
    let is : IsNext c.args.lines.now c.loop-next.marks.items c.in-Some.next =
    rw (← c.deref.ensures.value) c.in-Some.ensures in
    fewer_without c.loop-next.marks.items c.in-Some.next is.fresh

pub loop-next-preserved : goal.loop-next-preserved
loop-next-preserved c =
    let is : IsNext c.args.lines.now c.loop-next.marks.items c.in-Some.next =
    rw (← c.deref.ensures.value) c.in-Some.ensures in
    marked_more c.args.lines.now c.loop-next.marks.items c.in-Some.next c.loop-next.invariant.0
    c.loop-next.invariant.1 c.loop-next.invariant.2 is

pub returns : goal.returns
returns c =
    let closed : AreClosed c.args.lines.now c.loop-next.marks.items =
    rw (← c.deref.ensures.value) c.in_default.ensures in
    are_reached c.args.lines.now c.loop-next.marks.items c.loop-next.invariant.0 closed
    c.loop-next.invariant.1 c.loop-next.invariant.2
