use Rattle.std.proofs.Common.{◌≡◌, ◌<◌, ◌^◌, List, arith, length, rules, subst, sym}
use Rattle.std.specs.List.{AllZip}
use Rattle.std.proofs.lemmas.Result.{IfOk-weaker}
use Rattle.explorer.specs.Subject.{subject}
use Rattle.explore_texts.specs.Explored.{cases_printed}
use Rattle.explore_texts.specs.Found.{tallied}
use Rattle.explore_commands.specs.Injections.{AreTried, IsCaseFinding}
use Rattle.explore_texts.specs.declared.finding.Finding.{Finding}
use Rattle.explore_commands.proofs.Failing.{cases_below}
use Rattle.explore_commands.proofs.faults.seen_tried.Goals as goal

pub cases_printed-requires : goal.cases_printed-requires
cases_printed-requires g c = λ tally.
    let tried = subject c.args.trial in
    let before = c.args.before.now in
    let findings = c.in_ok-findings.findings.items in
    let cases = c.args.cases.now in
    let looked = c.in_ok-looked.looked in
    let found : AllZip (IsCaseFinding c.args.options tried before looked) cases findings = search rules in
    let below = cases_below c.args.options tried before looked cases findings found tally in
    let fits : length findings < 2 ^ 64 = search rules in
    let less : tallied tally findings < 2 ^ 64 = omega (arith, below, fits) in
    subst (λ (all : List Finding). tallied tally all < 2 ^ 64) (sym c.deref.ensures.value) less

pub returns : goal.returns
returns g c =
    let tried = subject c.args.trial in
    let before = c.args.before.now in
    let findings = c.in_ok-findings.findings.items in
    let cases = c.args.cases.now in
    let looked = c.in_ok-looked.looked in
    let found : AllZip (IsCaseFinding c.args.options tried before looked) cases findings = search rules in
    let as_is = c.in_ok-as_is.as_is in
    IfOk-weaker c.cases_printed.result
    (λ printed. printed ≡ cases_printed c.args.options.shown as_is findings)
    (AreTried c.args.options tried before cases)
    (λ printed says. record {
      looked = looked;
      is_looked = c.in_ok-looked.ensures;
      as_is = as_is;
      found_as_is = c.in_ok-as_is.ensures;
      findings = findings;
      found = found;
      says = says;
    })
    (search rules)
