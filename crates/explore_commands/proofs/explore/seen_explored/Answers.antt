use Rattle.std.proofs.Common.{◌-◌, [], ℕ, inl, rules, subst}
use Rattle.std.specs.List.{range_with_len}
use Rattle.std.proofs.lemmas.Result.{IfOk-weaker}
use Rattle.explorer.specs.Cases.{CasesJoin}
use Rattle.explorer.specs.Subject.{subject}
use Rattle.explore_texts.specs.Schedules.{delays_by}
use Rattle.explore_commands.specs.Explores.{GroupsPrint, SeenExplores}
use Rattle.explore_commands.proofs.explore.seen_explored.Goals as goal

pub returns : goal.returns
returns g c =
    let groups = c.in-Ok.groups in
    let before = c.args.before.now in
    let looked = c.in_ok-looked.looked in
    let tried = subject c.args.trial in
    let schedule = c.args.schedule.now in
    IfOk-weaker c.groups_explored.result
    (GroupsPrint tried c.args.options schedule before looked groups)
    (SeenExplores tried c.args.options schedule before)
    (λ printed print. inl (record {
      groups = groups;
      explores = subst
          (λ (n : ℕ).
          CasesJoin tried (delays_by schedule) []
          (range_with_len c.args.options.first (n - c.args.options.first)) groups)
          c.end.ensures c.in-Ok.ensures.ok;
      looked = looked;
      is_looked = c.in_ok-looked.ensures;
      print = print;
    }))
    (search rules)
