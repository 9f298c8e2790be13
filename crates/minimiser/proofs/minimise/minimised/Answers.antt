use Rattle.std.proofs.Common.{◌≡◌, All, false, subst, sym}
use Rattle.explorer.specs.Subject.{subject}
use Rattle.minimiser.specs.Failing.{FailsIn, IsMinimal, IsRefused}
use Rattle.minimiser.specs.Scopes.{Stands}
use Rattle.minimiser.proofs.AllThreads.{all_fails}
use Rattle.minimiser.proofs.Halving.{minimal_by}
use Rattle.minimiser.proofs.Standing.{stands_at_first}
use Rattle.minimiser.proofs.minimise.minimised.Goals as goal

-- it would fail where all lines are kept
pub returns-then-not-failing-clause-err : goal.returns-then-not-failing-clause-err
returns-then-not-failing-clause-err g c fails =
    let given = subject c.args.trial in
    let not : c.in_ok-failing.failing ≡ false = c.if-not-failing.true in
    let here = subst (FailsIn given c.args.target.now) (sym c.in_ok-kept.ensures)
    (all_fails given c.args.target.now fails) in
    absurd (cc (not, c.in_ok-failing.ensures.1 here))

-- all stands where all lines are kept
pub take_first-requires-clause-stands : goal.take_first-requires-clause-stands
take_first-requires-clause-stands g c =
    let texts = (subject c.args.trial).texts in
    subst (Stands c.args.scope texts) (sym c.in_ok-kept.ensures)
    (stands_at_first c.args.scope texts)

-- no step was taken, so each is refused
pub returns-then-not-taken-clause-ok : goal.returns-then-not-taken-clause-ok
returns-then-not-taken-clause-ok g c =
    let given = subject c.args.trial in
    let target = c.args.target.now in
    let kept = c.loop-delays.kept in
    let none = c.in_ok-taken.ensures.none c.if-not-taken.true in
    let refused = subst (All (IsRefused given target kept)) c.deref-in-loop-delays-2.ensures.value
    none.1 in
    subst (IsMinimal c.args.scope given target) (sym none.0)
    (minimal_by c.args.scope given target kept c.in_ok-steps.steps.items
    c.loop-delays.invariant.fails c.loop-delays.invariant.stands c.in_ok-steps.ensures.all refused)
