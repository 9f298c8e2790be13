use Rattle.std.proofs.Common.{◌≡◌, ◌≤◌, ◌∙◌, ap, false, length, sym, arith}
use Rattle.std.proofs.lemmas.Grind.{common_steps}
use Rattle.std.proofs.lemmas.Int.{to_z-of_z}
use mir.Syntax.{w64}
use mir.Val.{of_z, to_z}
use Rattle.script_checks.specs.Sharing.{has_number, naming_from}
use Rattle.script_checks.proofs.Telling.{added}
use Rattle.script_checks.proofs.descriptors.add_if_shared.Goals as goal

pub returns-in_ok-push : goal.returns-in_ok-push
returns-in_ok-push c =
    let is : to_z w64 (of_z w64 c.args.number) ≡ c.args.number =
    to_z-of_z w64 c.args.number c.ranges.number in
    let new : has_number c.args.number c.args.shared.now.items ≡ false =
    ap (has_number c.args.number) (sym c.deref.ensures.value)
    ∙ rw is at (sym c.has_number.ensures ∙ c.if-has_number.false) in
    let naming : c.in_ok-naming.naming.items ≡ naming_from 0 c.args.number c.args.scripts.now =
    rw is at c.in_ok-naming.ensures in
    let two : 2 ≤ length c.in_ok-naming.naming.items = grind (arith, common_steps) in
    rw (c.in_ok-push.ensures.items, is)
    (added c.args.scripts.now c.args.shared.now.items _ c.requires (naming, two) new)
