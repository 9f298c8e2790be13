use Rattle.std.proofs.Common.{subst, sym}
use Rattle.explorer.specs.Subject.{subject}
use Rattle.minimiser.specs.Scopes.{Stands}
use Rattle.minimiser.proofs.Standing.{stands_after}
use Rattle.minimiser.proofs.minimise.is_taken.Goals as goal

pub returns-in-Some-clause-stands : goal.returns-in-Some-clause-stands
returns-in-Some-clause-stands g c =
    let texts = (subject c.args.trial).texts in
    let after = rw c.in-Some.is at c.in_ok-rest.ensures in
    subst (Stands c.args.scope texts) (sym after.1)
    (stands_after c.args.scope texts c.args.kept.now c.args.step after.0 c.requires.allowed
    c.requires.stands)
