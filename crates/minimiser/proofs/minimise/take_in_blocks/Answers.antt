use Rattle.std.proofs.Common.{subst, sym}
use Rattle.explorer.specs.Subject.{subject}
use Rattle.minimiser.specs.Scopes.{AreAllowed}
use Rattle.minimiser.proofs.Standing.{delays_allowed}
use Rattle.minimiser.proofs.minimise.take_in_blocks.Goals as goal

pub take_blocks-requires-in-Schedule-clause-allowed :
    goal.take_blocks-requires-in-Schedule-clause-allowed
take_blocks-requires-in-Schedule-clause-allowed g c =
    let texts = (subject c.args.trial).texts in
    subst (AreAllowed c.args.scope texts) (sym c.requires.delays)
    (delays_allowed c.args.scope texts)
