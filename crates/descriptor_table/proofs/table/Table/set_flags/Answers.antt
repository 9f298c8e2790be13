use Rattle.std.proofs.Common.{refl}
use Rattle.file_descriptions.specs.Descriptions.{ContainsKey, description_at}
use Rattle.descriptor_table.specs.Table.{TableState}
use Rattle.descriptor_table.proofs.SoundLemmas.{sound-kept}
use Rattle.descriptor_table.proofs.table.Table.set_flags.Goals as goal

pub invariant_of-self : goal.invariant_of-self
invariant_of-self c =
    let before : TableState = record {
      descriptors = c.self.inside.descriptors;
      descriptions = c.self.inside.descriptions;
      paths = c.self.inside.names;
      objects = c.self.inside.objects;
      made_objects = c.self.inside.made_objects;
    } in
    let known : ContainsKey before.descriptions c.args.key = rw (← c.self.view_is) at c.requires in
    rw c.set_flags.ensures (sound-kept before c.args.key
    (record (description_at before.descriptions c.args.key) { flags = c.args.flags }) c.self.invariant known refl
    refl)
