use Rattle.std.proofs.Common.{Bool, subst}
use Rattle.std.proofs.lemmas.Result.{IfOk-weaker}
use Rattle.explorer.specs.Subject.{Subject}
use Rattle.explore_commands.specs.Explores.{TrialExplores}
use Rattle.explore_commands.specs.declared.trying.ToTry.TheVariants as tries
use Rattle.explore_commands.proofs.Tried.{alone_is, of_tried}
use Rattle.explore_commands.proofs.explore.explore_printed.Goals as goal

pub returns-in-Texts : goal.returns-in-Texts
returns-in-Texts g c =
    let texts = c.in-Texts.texts in
    let outcomes = c.in-Texts.outcomes in
    let settings = c.in-Texts.settings in
    let options = c.args.options in
    let shows = λ (subject : Subject). TrialExplores c.is_none-alone.result options subject in
    let alone = alone_is _ _ c.is_none-alone.result c.is_none-alone.ensures in
    IfOk-weaker c.trial_explored.result _ _
    (λ made says. (
      tries.Texts texts outcomes settings,
      rw c.in-Texts.is at c.in_ok-texts.ensures,
      subst (λ (alone : Bool). TrialExplores alone options
          (record { texts = texts.items; outcomes = outcomes.items; settings = settings }) made) alone says,
    ))
    (of_tried shows c.trial_explored.result c.deref.result.now texts.items
    c.deref-in-Texts.result.now outcomes.items settings c.deref.ensures.value
    c.deref-in-Texts.ensures.value c.trial_explored.ensures)
