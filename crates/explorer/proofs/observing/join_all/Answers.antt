use Rattle.std.proofs.Common.{rules, ◌≡◌, ◌∷◌, suc, List, Ok, Result, ap, arith, length, subst, sym}
use Rattle.std.specs.Vec.Iter.{into_iter_items}
use Rattle.explorer.specs.Joining.{AllJoin, HasFault}
use Rattle.explorer.specs.declared.fault.RunFault.{RunFault}
use Rattle.explorer.specs.declared.observation.Observation.{Observation}
use Rattle.explorer.proofs.Grouping.{one_more_run}
use Rattle.explorer.proofs.observing.join_all.Goals as goal

pub loop-one-preserved : goal.loop-one-preserved
loop-one-preserved c =
    let inv = c.loop-one.invariant in
    let case = c.loop-one.case in
    let groups = c.loop-one.groups in
    let seen = c.in_ok-one.field-0 in
    let now = c.join.new.self in
    let rest = into_iter_items c.next.new.self in
    let all : into_iter_items c.loop-one.one-iterator ≡ Ok seen ∷ rest = search rules in
    let joins = c.in_ok-join.ensures.ok in
    let more = one_more_run case seen groups now joins in
    let count = ap length all in
    record {
      can_next = record {};
      is_finite = record {};
      joins = λ new later.
          inv.joins new
          (subst (λ (l : List (Result Observation RunFault)). AllJoin case l groups new) (sym all)
          (now, joins, later));
      faults = λ why found.
          inv.faults why
          (subst (λ (l : List (Result Observation RunFault)). HasFault l why) (sym all)
          (suc found.0, found.1));
      runs = omega (arith, inv.runs, more, count);
      cases = omega (arith, inv.cases, count);
    }
