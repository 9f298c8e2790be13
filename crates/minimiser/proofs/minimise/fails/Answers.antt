use Rattle.std.proofs.Common.{◌≡◌, Some, rules}
use Rattle.explorer.specs.Subject.{subject}
use Rattle.minimiser.specs.Reductions.{place_now}
use Rattle.minimiser.proofs.FailsNow.{fails_by}
use Rattle.minimiser.proofs.minimise.fails.Goals as goal

pub returns-in-Some-2 : goal.returns-in-Some-2
returns-in-Some-2 g c =
    let given = subject c.args.trial in
    let target = c.args.target.now in
    let kept = c.args.kept.now in
    let now : place_now kept target.place ≡ Some c.in-Some.place = search rules in
    let law = rw (
      c.sameness.ensures,
      c.deref.ensures.value,
      c.in_ok-texts.ensures,
      c.deref-2.ensures.value,
      c.in_ok-outcomes.ensures,
    ) at c.in_ok-found.ensures in
    fails_by given target kept c.in-Some.place c.in_ok-found.field-0 c.in-Some-2.found c.is.result now
    law c.in-Some-2.is c.is.ensures
