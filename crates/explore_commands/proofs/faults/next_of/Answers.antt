use Rattle.std.proofs.Common.{◌≡◌, ◌∙◌, ◌+◌, ◌-◌, ◌++◌, ap, arith, drop, sym, take}
use Rattle.std.proofs.lemmas.List.{drop-take, take-append-drop, take-take}
use Rattle.explore_commands.proofs.faults.next_of.Goals as goal

pub returns-clause-more : goal.returns-clause-more
returns-clause-more c =
    let cases = c.args.cases.now in
    let made = c.args.made in
    let count = c.args.count in
    let all = take (made + count) cases in
    let first : take made all ≡ take made cases = search (take-take, arith) in
    let left : made + count - made ≡ count = omega arith in
    sym (take-append-drop made all)
    ∙ (ap (λ l. l ++ drop made all) first
    ∙ ap (λ l. take made cases ++ l)
    (drop-take made count cases ∙ ap (λ n. take n (drop made cases)) (sym left)))
