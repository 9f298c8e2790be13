use Rattle.std.proofs.Common.{◌+◌, ◌-◌, drop, subst, sym, take}
use Rattle.std.proofs.lemmas.List.Elements.{All-drop, All-take}
use Rattle.explorer.specs.Subject.{subject}
use Rattle.minimiser.specs.Scopes.{IsAllowed, Stands}
use Rattle.minimiser.proofs.Standing.{stands_after_all}
use Rattle.minimiser.proofs.minimise.take_blocks_of.Goals as goal

pub loop-from-preserved-in-Some : goal.loop-from-preserved-in-Some
loop-from-preserved-in-Some g c =
    let texts = (subject c.args.trial).texts in
    let from = c.loop-from.from in
    let rest = drop from c.args.steps.now in
    let count = from + c.min.result - from in
    let allowed = IsAllowed c.args.scope texts in
    let after = rw c.in-Some.is at c.in_ok-rest.ensures in
    record {
      fails = after.1;
      stands = subst (Stands c.args.scope texts) (sym after.0)
          (stands_after_all c.args.scope texts c.loop-from.kept (take count rest)
          (All-take allowed count rest (All-drop allowed from c.args.steps.now c.requires.allowed))
          c.loop-from.invariant.stands);
    }
