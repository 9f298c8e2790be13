use Rattle.sequential_object.specs.Paths.{components_of}
use Rattle.directories.specs.Entries.{node_of}
use Rattle.descriptor_table.specs.Changes.{NamesUsed}
use Rattle.descriptor_table.specs.Table.{TableState}
use Rattle.descriptor_table.proofs.SoundLemmas.{sound-name}
use Rattle.descriptor_table.proofs.table.Table.add_name.Goals as goal

pub invariant_of-self : goal.invariant_of-self
invariant_of-self c =
    let before : TableState = record {
      descriptors = c.self.inside.descriptors;
      descriptions = c.self.inside.descriptions;
      paths = c.self.inside.names;
      objects = c.self.inside.objects;
      made_objects = c.self.inside.made_objects;
    } in
    let used : NamesUsed before (node_of c.args.node) = rw (← c.self.view_is) at c.requires.used in
    rw c.insert.ensures (sound-name before (components_of c.args.path.now) (node_of c.args.node) used c.self.invariant)
