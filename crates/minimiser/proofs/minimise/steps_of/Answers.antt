use Rattle.std.proofs.Common.{◌≡◌, ◌++◌, filter_map, rules, subst, sym}
use Rattle.explorer.specs.Subject.{subject}
use Rattle.minimiser.specs.Reductions.{half_of}
use Rattle.minimiser.specs.Rounds.{delays_of}
use Rattle.minimiser.specs.Scopes.{AreAll, AreAllowed}
use Rattle.minimiser.proofs.Halving.{are_all, steps_allowed}
use Rattle.minimiser.proofs.minimise.steps_of.Goals as goal

pub returns-clause-allowed : goal.returns-clause-allowed
returns-clause-allowed c =
    let texts = (subject c.args.trial).texts in
    let kept = c.args.kept.now in
    let first = c.in_ok-steps.steps.items in
    let is : c.extend_from_slice.new.self.items
    ≡ first ++ filter_map (half_of kept) (delays_of 0 texts) = search rules in
    subst (AreAllowed c.args.scope texts) (sym is)
    (steps_allowed c.args.scope texts kept first c.in_ok-steps.ensures.allowed)

pub returns-clause-all : goal.returns-clause-all
returns-clause-all c =
    let texts = (subject c.args.trial).texts in
    let kept = c.args.kept.now in
    let first = c.in_ok-steps.steps.items in
    let is : c.extend_from_slice.new.self.items
    ≡ first ++ filter_map (half_of kept) (delays_of 0 texts) = search rules in
    subst (AreAll c.args.scope texts kept) (sym is)
    (are_all c.args.scope texts kept first c.in_ok-steps.ensures.all)
