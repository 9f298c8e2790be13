use Rattle.std.proofs.lemmas.Result.{IfOk-weaker}
use Rattle.explorer.specs.Subject.{Subject}
use Rattle.explore_commands.specs.Minimises.{SubjectMinimises}
use Rattle.explore_commands.specs.declared.trying.ToTry.TheVariants as tries
use Rattle.explore_commands.proofs.Tried.{of_tried}
use Rattle.explore_commands.proofs.minimise.to_minimise.Goals as goal

pub returns-in-Texts : goal.returns-in-Texts
returns-in-Texts g c =
    let texts = c.in-Texts.texts in
    let outcomes = c.in-Texts.outcomes in
    let settings = c.in-Texts.settings in
    let shows = λ (subject : Subject). SubjectMinimises c.args.options subject in
    IfOk-weaker c.trial_minimised.result _ _
    (λ made says.
    (tries.Texts texts outcomes settings, rw c.in-Texts.is at c.in_ok-texts.ensures, says))
    (of_tried shows c.trial_minimised.result c.deref.result.now texts.items
    c.deref-in-Texts.result.now outcomes.items settings c.deref.ensures.value
    c.deref-in-Texts.ensures.value c.trial_minimised.ensures)
