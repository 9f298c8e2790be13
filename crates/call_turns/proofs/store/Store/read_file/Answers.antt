use Rattle.std.proofs.Common.{ap, sym, subst, rules}
use Rattle.file_descriptions.specs.Descriptions.{ContainsKey, DescriptionMap}
use Rattle.descriptor_table.specs.Doors.{AddsNone}
use Rattle.descriptor_table.specs.Table.{TableState}
use Rattle.call_turns.proofs.Errands.{offset_adds, one_adds}
use Rattle.call_turns.proofs.store.Store.read_file.Goals as goal

pub invariant_of-self-inside : goal.invariant_of-self-inside
invariant_of-self-inside c =
    let t : TableState = c.self.inside.table in
    let known : ContainsKey t.descriptions c.args.from.key = rw (← c.self.view_is) at c.requires.known in (
      search rules,
      (
        one_adds t.descriptions c.set_offset.new.self.descriptions
            (subst (λ (m : DescriptionMap). AddsNone t.descriptions m)
            (sym (ap (λ (u : TableState). u.descriptions) c.set_offset.ensures.set))
            (offset_adds t.descriptions c.args.from.key _ known)) c.self.inside.single,
        tt,
      ),
    )
