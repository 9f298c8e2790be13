use Rattle.std.proofs.Common.{subst, sym}
use Rattle.explorer.specs.Subject.{subject}
use Rattle.minimiser.specs.Scopes.{AreAllowed}
use Rattle.minimiser.proofs.Standing.{delays_allowed}
use Rattle.minimiser.proofs.minimise.take_first.Goals as goal

pub shorten_all-requires-clause-allowed : goal.shorten_all-requires-clause-allowed
shorten_all-requires-clause-allowed g c =
    let texts = (subject c.args.trial).texts in
    subst (AreAllowed c.args.scope texts) (sym c.requires.delays)
    (delays_allowed c.args.scope texts)
