use Rattle.std.proofs.Common.{◌≡◌, ◌≢◌, ◌≤◌, ◌<◌, ◌+◌, ◌∙◌, ap, inl, inr, length, refl, slice_index_or, subst, sym}
use Rattle.std.proofs.Common.{All, List, rules}
use Rattle.std.proofs.lemmas.Bool.{true≢false}
use Rattle.std.proofs.Math.Seq.{map-set_same}
use Rattle.std.proofs.lemmas.List.{take_all}
use Rattle.std.proofs.lemmas.List.Elements.{All-more}
use Rattle.std.proofs.lemmas.Option.{slice_get_read}
use Rattle.explorer.specs.Numbers.{number_in}
use Rattle.explorer.specs.declared.groups.Group.{Group}
use Rattle.explorer.proofs.groups.Groups.join.Goals as goal

-- one run more leaves the number of a group
pub invariant_of-self : goal.invariant_of-self
invariant_of-self c =
    let group : Group = c.index_mut.result.now in
    let items = c.self-in-loop-i.inside.groups.items in
    let at : group ≡ slice_index_or items c.loop-i.i group = search rules in
    c.self-in-loop-i.invariant
    ∙ sym (map-set_same number_in items c.loop-i.i (record group { runs = group.runs + 1 }) group
    (ap number_in at))

pub returns-then-has_seen-clause-ok : goal.returns-then-has_seen-clause-ok
returns-then-has_seen-clause-ok c =
    let group : Group = c.index_mut.result.now in
    let items = c.self-in-loop-i.inside.groups.items in
    let at : group ≡ slice_index_or items c.loop-i.i group = search rules in
    let whole : items ≡ c.loop-i.self = search rules in
    let all : items ≡ c.args.self.now = search rules in
    let inside : c.loop-i.i < length c.args.self.now = search rules in
    let seen = c.has_seen.ensures group in
    inl (record {
      place = c.loop-i.i;
      group = group;
      at = slice_get_read c.args.self.now (length c.args.self.now) c.loop-i.i group refl inside
          (at ∙ ap (λ (groups : List Group). slice_index_or groups c.loop-i.i group) all);
      same = ap (λ (g : Group). g.observation)
          (at ∙ ap (λ (groups : List Group). slice_index_or groups c.loop-i.i group) whole)
          ∙ seen.0 c.if-has_seen.true;
      joined = search rules;
    })

pub loop-i-preserved : goal.loop-i-preserved
loop-i-preserved c =
    let d : Group = record { first = 0; runs = 0; observation = c.args.observation } in
    let seen = c.has_seen.ensures d in
    let inside : c.loop-i.i < length c.loop-i.self = search rules in
    record {
      kept = c.loop-i.invariant.kept;
      ends = c.loop-i.invariant.ends;
      its = c.loop-i.invariant.its;
      others = All-more (λ (g : Group). g.observation ≢ c.args.observation) c.loop-i.self c.loop-i.i d inside
          c.loop-i.invariant.others
          (λ same. absurd (true≢false (sym (seen.1 same) ∙ c.if-has_seen.false)));
    }

pub returns-clause-ok : goal.returns-clause-ok
returns-clause-ok c =
    let items = c.loop-i.self in
    let same : items ≡ c.args.self.now = search rules in
    let past : length items ≤ c.loop-i.i = search rules in
    let others =
    subst (λ (groups : List Group). All (λ (g : Group). g.observation ≢ c.args.observation) groups)
    (take_all c.loop-i.i items past ∙ same) c.loop-i.invariant.others in
    inr (record { others = others; begun = search rules })
