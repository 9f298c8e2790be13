use Rattle.std.proofs.Common.{◌≡◌, length, replicate, ap, ◌∙◌, sym, subst, rules}
use Rattle.descriptor_table.specs.Doors.{HaveOne}
use Rattle.descriptor_table.specs.Table.{TableState, empty_table}
use Rattle.call_turns.proofs.Errands.{empty_one}
use Rattle.call_turns.specs.Bodies.{first_kept}
use Rattle.std.proofs.lemmas.List.{length-replicate}
use Rattle.call_turns.proofs.store.Store.new.Goals as goal

pub invariant_of-result : goal.invariant_of-result
invariant_of-result c =
    let items : c.loop.bodies.items ≡ replicate 48 first_kept = search rules in
    let empty : c.in_ok-new-2.field-0 ≡ empty_table = search rules in (
      ap length items ∙ length-replicate 48 first_kept,
      (subst (λ (t : TableState). HaveOne t.descriptions) (sym empty) empty_one, tt),
    )
