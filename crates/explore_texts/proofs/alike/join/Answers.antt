use Rattle.std.proofs.Common.{rules, ◌≡◌, ◌+◌, ◌<◌, ◌≤◌, ◌∙◌, All, ap, arith, inr, length, List, map, slice_index_or}
use Rattle.std.proofs.Common.{subst, sym}
use Rattle.std.specs.List.{insert}
use Rattle.std.specs.Vec.{vec_len}
use Rattle.std.proofs.lemmas.List.{length-map, take_all}
use Rattle.std.proofs.lemmas.List.Elements.{All-more}
use Rattle.explore_texts.specs.Alike.{AreAlike, IsNext, unmet_of}
use Rattle.explore_texts.specs.Numbers.{number_in}
use Rattle.explore_texts.specs.declared.alike.AlikeRuns.{AlikeRuns}
use Rattle.explore_texts.proofs.Joining.{NotAlike, next_within}
use Rattle.explore_texts.proofs.Numbering.{numbers_in, numbers_set}
use Rattle.explore_texts.proofs.alike.join.Goals as goal

pub loop-i-preserved : goal.loop-i-preserved
loop-i-preserved c =
    let inv = c.loop-i.invariant in
    let all = c.loop-i.all.items in
    let inside : c.loop-i.i < length all = omega (arith, c.loop-i-test.true, inv.ends) in
    let law = c.if-is_alike_at.ensures c.args.runs in
    record {
      kept = inv.kept;
      numbers = inv.numbers;
      ends = inv.ends;
      others = All-more (NotAlike c.args.runs) all c.loop-i.i c.args.runs inside inv.others
          (λ alike.
          cc
          (law.1
          (subst (λ (l : List AlikeRuns). AreAlike (slice_index_or l c.loop-i.i c.args.runs) c.args.runs)
          (sym c.deref.ensures.value) alike)));
    }

pub insert-requires : goal.insert-requires
insert-requires c =
    omega (
      arith,
      next_within c.unmet_place.result c.deref-2.result.now c.next_place-next.result c.next_place-next.ensures,
      c.deref-2.ensures.len,
    )

pub returns-clause-joined : goal.returns-clause-joined
returns-clause-joined c =
    let inv = c.loop-i.invariant in
    let items = c.loop-i.all.items in
    let same : items ≡ c.args.all.now.items = search rules in
    let over : length items ≤ c.loop-i.i = omega (arith, c.loop-i-test.false, inv.ends) in
    let others = subst (λ (all : List AlikeRuns). All (NotAlike c.args.runs) all)
    (take_all c.loop-i.i items over ∙ same) inv.others in
    let next = rw (c.deref-2.ensures.value, c.unmet_place.ensures) at c.next_place-next.ensures in
    inr (record {
      others = others;
      count = c.next_place-next.result;
      next = subst (λ (all : List AlikeRuns). IsNext (unmet_of c.args.runs) all c.next_place-next.result) same next;
      begun = search rules;
    })

pub returns-clause-numbers : goal.returns-clause-numbers
returns-clause-numbers c =
    let all = c.loop-i.all.items in
    let next = c.next_place-next.result in
    let given : c.args.numbers.now.items ≡ map number_in all =
    c.requires.numbers ∙ ap (λ v. map number_in v.items) (sym c.loop-i.invariant.kept) in
    c.in_ok-insert-2.ensures.items
    ∙ ap (λ numbers. insert numbers next c.number-number.result) given
    ∙ ap (λ number. insert (map number_in all) next number) c.number-number.ensures
    ∙ numbers_in all next c.args.runs
    ∙ ap (map number_in) (sym c.in_ok-insert.ensures.items)

pub insert-requires-2 : goal.insert-requires-2
insert-requires-2 c =
    let all = c.loop-i.all.items in
    let numbers : c.args.numbers.now.items ≡ map number_in all =
    c.requires.numbers ∙ ap (λ v. map number_in v.items) (sym c.loop-i.invariant.kept) in
    let given : length c.args.numbers.now.items ≡ length all =
    ap length numbers ∙ length-map all number_in in
    let len : vec_len c.args.numbers.now ≡ length c.args.numbers.now.items = search rules in
    omega (
      arith,
      next_within c.unmet_place.result c.deref-2.result.now c.next_place-next.result c.next_place-next.ensures,
      c.deref-2.ensures.value,
      c.deref-2.ensures.len,
      given,
      len,
    )

pub returns-then-is_alike_at-clause-numbers : goal.returns-then-is_alike_at-clause-numbers
returns-then-is_alike_at-clause-numbers c =
    let all = c.loop-i.all.items in
    let one = c.index_mut.result.now in
    let more : AlikeRuns = record one {
      group = record one.group { runs = one.group.runs + c.args.runs.group.runs };
    } in
    let given : c.args.numbers.now.items ≡ map number_in all = search rules in
    given ∙ numbers_set all c.loop-i.i more one (ap number_in c.index_mut.ensures.value)
