use Rattle.std.proofs.Common.{◌≡◌, ◌+◌, ◌++◌, ◌∷◌, ◌∙◌, [], All, get_or, refl}
use Rattle.std.proofs.Common.{subst, sym, take, true}
use Rattle.std.proofs.lemmas.List.{take_all, take_more}
use Rattle.explorer.specs.Subject.{subject}
use Rattle.minimiser.specs.Failing.{FailsIn, IsRefused}
use Rattle.minimiser.specs.Reductions.{without}
use Rattle.minimiser.specs.Scopes.{Stands}
use Rattle.minimiser.specs.declared.step.Removal.{Removal}
use Rattle.minimiser.specs.declared.step.Removal.TheVariants as step
use Rattle.minimiser.proofs.Standing.{stands_after}
use Rattle.minimiser.proofs.Taking.{one_refused, one_taken, same_round}
use Rattle.minimiser.proofs.minimise.take.Goals as goal
use Rattle.minimiser.proofs.minimise.take.Goals.{in-Some, in_default}

pub loop-step-preserved : goal.loop-step-preserved
loop-step-preserved g c =
    let given = subject c.args.trial in
    let target = c.args.target.now in
    let scope = c.args.scope in
    let first = c.args.kept.now in
    let kept = c.loop-step.kept in
    let taken = c.loop-step.taken in
    let steps = c.args.steps.now in
    let i = c.loop-step.step-index in
    let now : Removal = get_or steps i (step.Line 0 0) in
    let tried = take i steps in
    let more = take (i + 1) steps in
    let one_more : more ≡ tried ++ now ∷ [] =
    take_more steps i (step.Line 0 0) c.loop-step-test.true in
    elim c.match-rest.branch [
      | in-Some w ↦
          let after = rw w.in-Some.is at c.in_ok-rest.ensures in
          record {
            round = same_round given target first (without kept now) c.match-rest.kept true
                c.match-rest.taken more more (w.kept-is ∙ after.1) w.taken-is refl
                (one_taken given target first kept taken tried more now c.loop-step.invariant.round
                after.0 (subst (FailsIn given target) after.1 after.2));
            stands = subst (Stands scope given.texts) (sym (w.kept-is ∙ after.1))
                (stands_after scope given.texts kept now after.0
                (c.requires.allowed i (step.Line 0 0) c.loop-step-test.true)
                c.loop-step.invariant.stands);
          }
      | in_default w ↦
          let refused = rw w.in_default.is at c.in_ok-rest.ensures in
          record {
            round = same_round given target first kept c.match-rest.kept taken c.match-rest.taken
                (tried ++ now ∷ []) more w.kept-is w.taken-is one_more
                (one_refused given target first kept taken tried now c.loop-step.invariant.round
                refused);
            stands = subst (Stands scope given.texts) (sym w.kept-is) c.loop-step.invariant.stands;
          }
    ]

pub returns-clause-none : goal.returns-clause-none
returns-clause-none g c not =
    let refused = IsRefused (subject c.args.trial) c.args.target.now c.args.kept.now in
    let none = c.loop-step.invariant.round.none not in
    let all = take_all c.loop-step.step-index c.args.steps.now c.loop-step-test.false in
    (none.0, subst (All refused) all none.1)
