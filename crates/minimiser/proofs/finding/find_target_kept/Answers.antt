use Rattle.std.proofs.Common.{◌≡◌, All, IfOk, Option, Some, rules}
use Rattle.std.proofs.lemmas.Result.{IfOk-weaker}
use Rattle.std.specs.List.{zip}
use Rattle.std.specs.Prelude.{◌↔◌, MatchOption}
use Rattle.explorer.specs.Subject.{subject}
use Rattle.minimiser.specs.Failing.{Fails, IsRunOf}
use Rattle.minimiser.specs.Targets.{IsAsExpected, IsFirstTarget}
use Rattle.minimiser.specs.declared.target.Target.{Target}
use Rattle.minimiser.proofs.OneTarget.{Laws, found_in, none_run}
use Rattle.minimiser.proofs.finding.find_target_kept.Goals as goal

pub returns-in-Some : goal.returns-in-Some
returns-in-Some c =
    let given = subject c.args.trial in
    let seen = c.in-Some.observation in
    let threads = zip given.texts seen.seen in
    let laws : Laws = record {
      run = c.plain_runs_agree.ensures;
      list = c.one_reading.ensures.list;
      none = c.one_first_unmet.ensures.none;
      first = c.one_first_unmet.ensures.one;
    } in
    let run : IsRunOf given seen = search rules in
    let first : IfOk c.first_target.result (λ (found : Option Target).
    MatchOption found (All IsAsExpected threads) (IsFirstTarget c.args.sameness threads)) = search rules in
    IfOk-weaker c.first_target.result (λ (found : Option Target).
    MatchOption found (All IsAsExpected threads) (IsFirstTarget c.args.sameness threads))
    (λ (found : Option Target). (target : Target) → (found ≡ Some target) ↔ Fails c.args.sameness given target)
    (found_in laws c.args.sameness given seen run) first

pub returns-in-None : goal.returns-in-None
returns-in-None c =
    none_run c.args.sameness (subject c.args.trial) (rw c.in-None.is at c.in_ok-observation.ensures)
