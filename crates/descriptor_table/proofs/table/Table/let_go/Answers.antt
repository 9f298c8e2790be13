use Rattle.std.proofs.Common.{◌≡◌, None, Some}
use Rattle.std.specs.Prelude.{slice_index_or}
use Rattle.descriptor_table.specs.Table.{TableState}
use Rattle.descriptor_table.proofs.SoundLemmas.{sound-let_go}
use Rattle.descriptor_table.proofs.table.Table.let_go.Goals as goal

pub invariant_of-self : goal.invariant_of-self
invariant_of-self c =
    let before : TableState = record {
      descriptors = c.self.inside.descriptors;
      descriptions = c.self.inside.descriptions;
      paths = c.self.inside.names;
      objects = c.self.inside.objects;
      made_objects = c.self.inside.made_objects;
    } in
    let refers : slice_index_or before.descriptors c.args.number None ≡ Some c.args.key =
    rw (← c.self.view_is) at c.requires.refers.1 in
    rw c.drop_one-ended.ensures.left
    (sound-let_go before c.args.number c.args.key c.self.invariant c.requires.refers.0 refers)
