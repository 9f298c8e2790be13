use Rattle.std.proofs.Common.{rules, ◌≡◌, ◌∷◌, List, ap, arith, subst, sym}
use Rattle.std.proofs.lemmas.List.Sums.{sum_by-cons}
use Rattle.std.specs.Vec.Iter.{into_iter_items}
use Rattle.explorer.specs.Groups.{runs_of}
use Rattle.explorer.specs.declared.groups.Group.{Group}
use Rattle.explore_texts.specs.Alike.{AllJoin}
use Rattle.explore_texts.specs.declared.alike.AlikeRuns.{AlikeRuns}
use Rattle.explore_texts.proofs.Joining.{more_runs}
use Rattle.explore_texts.proofs.alike.alike_runs.Goals as goal

pub loop-group-preserved : goal.loop-group-preserved
loop-group-preserved c =
    let inv = c.loop-group.invariant in
    let group = c.in-Some.group in
    let runs : AlikeRuns = record { group = group; looked = c.in_ok-looked.looked } in
    let old = c.loop-group.all.items in
    let joined = c.join.new.all.items in
    let rest = into_iter_items c.next.new.self in
    let all : into_iter_items c.loop-group.group-iterator ≡ group ∷ rest = search rules in
    let joins = c.in_ok-join.ensures.joined in
    let more = more_runs runs old joined joins in
    let count = sum_by-cons (λ (g : Group). g.runs) group rest in
    let whole = ap (λ (l : List Group). runs_of l) all in
    record {
      can_next = record {};
      is_finite = record {};
      joins = λ new later.
          inv.joins new
          (subst (λ (l : List Group). AllJoin c.args.raw c.args.texts.now l old new) (sym all)
          (c.in_ok-looked.looked, c.in_ok-looked.ensures, (joined, joins, later)));
      numbers = c.in_ok-join.ensures.numbers;
      runs = omega (arith, inv.runs, more, count, whole);
    }
