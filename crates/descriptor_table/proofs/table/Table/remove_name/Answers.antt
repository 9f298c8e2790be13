use Rattle.sequential_object.specs.Paths.{components_of}
use Rattle.descriptor_table.specs.Table.{TableState}
use Rattle.descriptor_table.proofs.SoundLemmas.{sound-unnamed}
use Rattle.descriptor_table.proofs.table.Table.remove_name.Goals as goal

pub invariant_of-self : goal.invariant_of-self
invariant_of-self c =
    let before : TableState = record {
      descriptors = c.self.inside.descriptors;
      descriptions = c.self.inside.descriptions;
      paths = c.self.inside.names;
      objects = c.self.inside.objects;
      made_objects = c.self.inside.made_objects;
    } in
    rw c.remove_name.ensures (sound-unnamed before (components_of c.args.path.now) c.self.invariant)
