use Rattle.std.proofs.Common.{◌≡◌, None}
use Rattle.std.specs.Prelude.{slice_index_or}
use Rattle.file_descriptions.specs.Descriptions.{ContainsKey}
use Rattle.descriptor_table.specs.Table.{TableState}
use Rattle.descriptor_table.proofs.SoundLemmas.{sound-shared}
use Rattle.descriptor_table.proofs.table.Table.share.Goals as goal

pub invariant_of-self : goal.invariant_of-self
invariant_of-self c =
    let before : TableState = record {
      descriptors = c.self.inside.descriptors;
      descriptions = c.self.inside.descriptions;
      paths = c.self.inside.names;
      objects = c.self.inside.objects;
      made_objects = c.self.inside.made_objects;
    } in
    let free : slice_index_or before.descriptors c.args.number None ≡ None =
    rw (← c.self.view_is) at c.requires.free.1 in
    let known : ContainsKey before.descriptions c.args.key = rw (← c.self.view_is) at c.requires.known in
    rw c.hold.ensures (sound-shared before c.args.number c.args.key c.self.invariant known c.requires.free.0 free)
