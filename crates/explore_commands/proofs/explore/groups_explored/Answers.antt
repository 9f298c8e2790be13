use Rattle.std.proofs.Common.{◌≡◌, ◌≤◌, ◌<◌, ◌^◌, arith, rules}
use Rattle.std.specs.List.{AllZip}
use Rattle.std.proofs.lemmas.Result.{IfOk-weaker}
use Rattle.explorer.specs.Groups.{runs_of}
use Rattle.explorer.specs.Subject.{subject}
use Rattle.explore_texts.specs.Alike.{runs_in}
use Rattle.explore_texts.specs.Explored.{explored_printed}
use Rattle.explore_texts.specs.Findings.{IsFinding}
use Rattle.explore_texts.specs.Found.{tallied}
use Rattle.explore_commands.specs.Explores.{GroupsPrint}
use Rattle.explore_commands.proofs.explore.groups_explored.Goals as goal

pub explored_printed-requires : goal.explored_printed-requires
explored_printed-requires c = λ tally.
    let groups = c.args.groups in
    let all = c.in_ok-all.all.items in
    let findings = c.in_ok-findings.findings.items in
    let below : tallied tally findings ≤ runs_in all = search rules in
    let same : runs_in all ≡ runs_of groups = search rules in
    let fits : runs_of groups < 2 ^ 64 = search rules in
    let less : tallied tally findings < 2 ^ 64 = omega (arith, below, same, fits) in
    search rules

pub returns : goal.returns
returns c =
    let groups = c.args.groups in
    let all = c.in_ok-all.all.items in
    let findings = c.in_ok-findings.findings.items in
    let before = c.args.before.observation.now in
    let looked = c.args.before.looked.now in
    let tried = subject c.args.trial in
    let schedule = c.args.schedule.now in
    let options = c.args.options in
    let found : AllZip (IsFinding options.shown.json tried schedule before looked) all findings = search rules in
    let as_is = c.in_ok-as_is.as_is in
    IfOk-weaker c.explored_printed.result
    (λ printed. printed ≡ explored_printed options.shown schedule as_is (runs_of groups) findings)
    (GroupsPrint tried options schedule before looked groups)
    (λ printed says. record {
      as_is = as_is;
      found_as_is = c.in_ok-as_is.ensures;
      all = all;
      join = c.in_ok-all.ensures.joined;
      findings = findings;
      found = found;
      says = says;
    })
    (search rules)
