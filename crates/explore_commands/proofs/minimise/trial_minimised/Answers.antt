use Rattle.std.proofs.Common.{◌≡◌, None, inl, inr, rules}
use Rattle.std.proofs.lemmas.Result.{IfOk-weaker}
use Rattle.explorer.specs.Subject.{subject}
use Rattle.minimiser.specs.Failing.{Fails}
use Rattle.minimiser.specs.declared.target.Target.{Target}
use Rattle.explore_commands.specs.Minimises.{NothingMinimises, SubjectMinimises, TargetMinimises}
use Rattle.explore_commands.proofs.minimise.trial_minimised.Goals as goal

pub returns-in_default : goal.returns-in_default
returns-in_default g c =
    let tried = subject c.args.trial in
    let none : c.in_ok-target.field-0 ≡ None = search rules in
    IfOk-weaker c.nothing_minimised.result (NothingMinimises tried) (SubjectMinimises c.args.options tried)
    (λ write nothing. inr (
      λ (target : Target). λ (fails : Fails c.args.options.sameness tried target).
          cc (none, (c.in_ok-target.ensures target).1 fails),
      nothing,
    ))
    c.nothing_minimised.ensures

pub returns : goal.returns
returns g c =
    let tried = subject c.args.trial in
    let target = c.in-Some.target in
    IfOk-weaker c.target_minimised.result (TargetMinimises c.args.options.scope tried target)
    (SubjectMinimises c.args.options tried)
    (λ write says. inl (target, (c.in_ok-target.ensures target).0 c.in-Some.is, says))
    c.target_minimised.ensures
