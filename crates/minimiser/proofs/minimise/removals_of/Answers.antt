use Rattle.std.proofs.Common.{◌≡◌, rules, subst, sym}
use Rattle.explorer.specs.Subject.{subject}
use Rattle.minimiser.specs.Rounds.{delays_of}
use Rattle.minimiser.specs.Scopes.{AreAllowed}
use Rattle.minimiser.proofs.Standing.{delays_allowed}
use Rattle.minimiser.proofs.minimise.removals_of.Goals as goal

pub returns-in_ok-steps-in-Schedule-clause-allowed : goal.returns-in_ok-steps-in-Schedule-clause-allowed
returns-in_ok-steps-in-Schedule-clause-allowed c =
    let texts = (subject c.args.trial).texts in
    let is : c.in_ok-steps-in-Schedule.steps.items ≡ delays_of 0 texts = search rules in
    subst (AreAllowed c.args.scope texts) (sym is) (delays_allowed c.args.scope texts)
