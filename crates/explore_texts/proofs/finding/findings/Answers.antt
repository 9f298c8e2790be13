use Rattle.std.proofs.Common.{◌≡◌, ◌+◌, ◌<◌, ◌++◌, ◌∙◌, [], ◌∷◌, List, length, take}
use Rattle.std.proofs.Common.{◌≤◌, arith, get_or, ap, subst, sym, rules}
use Rattle.std.proofs.lemmas.List.{take_all, take_more}
use Rattle.std.specs.List.{AllZip}
use Rattle.explorer.specs.Subject.{subject}
use Rattle.explore_texts.specs.Findings.{IsFinding}
use Rattle.explore_texts.specs.declared.alike.AlikeRuns.{AlikeRuns}
use Rattle.explore_texts.specs.declared.finding.Finding.{Finding}
use Rattle.explore_texts.proofs.Failing.{pairs_more, tallied_below}
use Rattle.explore_texts.proofs.finding.findings.Goals as goal

pub loop-alike-preserved : goal.loop-alike-preserved
loop-alike-preserved c =
    let all = c.args.all.now in
    let k = c.loop-alike.alike-index in
    let before = c.loop-alike.findings.items in
    let alike = c.alike-item.result in
    let found = c.in_ok-found_in.field-0 in
    let R = IsFinding c.args.json (subject c.args.trial) c.args.schedule.now c.args.before.observation.now
    c.args.before.looked.now in
    let inside : k < length all = search rules in
    let read : get_or all k alike ≡ alike = search rules in
    let so_far : take (k + 1) all ≡ take k all ++ alike ∷ [] =
    take_more all k alike inside ∙ ap (λ (r : AlikeRuns). take k all ++ r ∷ []) read in
    let added : c.push.new.self.items ≡ before ++ found ∷ [] = search rules in
    let more = pairs_more R (take k all) before alike found c.loop-alike.invariant
    c.in_ok-found_in.ensures in
    subst (λ (runs : List AlikeRuns). AllZip R runs c.push.new.self.items) (sym so_far)
    (subst (λ (findings : List Finding). AllZip R (take k all ++ alike ∷ []) findings) (sym added) more)

pub returns-clause-tallied : goal.returns-clause-tallied
returns-clause-tallied c = λ tally.
    let all = c.args.all.now in
    let index = c.loop-alike.alike-index in
    let findings = c.loop-alike.findings.items in
    let tried = subject c.args.trial in
    let schedule = c.args.schedule.now in
    let before = c.args.before.observation.now in
    let looked = c.args.before.looked.now in
    let over : length all ≤ index = omega (arith, c.loop-alike-test.false) in
    let found = subst
    (λ (runs : List AlikeRuns). AllZip (IsFinding c.args.json tried schedule before looked) runs findings)
    (take_all index all over) c.loop-alike.invariant in
    tallied_below c.args.json tried schedule before looked all findings found tally
