use Rattle.std.proofs.Common.{◌≡◌, length, ap, ◌∙◌, sym, subst}
use Rattle.std.proofs.lemmas.List.{length-replicate, with_items_is}
use Rattle.descriptor_table.specs.Doors.{HaveOne}
use Rattle.descriptor_table.specs.Table.{TableState}
use Rattle.call_turns.proofs.Errands.{empty_one}
use Rattle.call_turns.specs.Bodies.{first_kept}
use Rattle.call_turns.proofs.store.Store.reset.Goals as goal

pub invariant_of-self-inside : goal.invariant_of-self-inside
invariant_of-self-inside c =
    let bodies = c.self.inside.bodies in
    let as_many : length c.clear_all.new.bodies ≡ length bodies.items =
    ap length c.clear_all.ensures ∙ length-replicate (length c.as_mut_slice.result.now) first_kept
    ∙ ap length c.as_mut_slice.ensures.value in
    let is = with_items_is bodies c.clear_all.new.bodies (as_many ∙ sym bodies.ok.0) in (
      ap length is ∙ as_many ∙ c.self.inside.count,
      (subst (λ (t : TableState). HaveOne t.descriptions) (sym c.reset.ensures) empty_one, tt),
    )
