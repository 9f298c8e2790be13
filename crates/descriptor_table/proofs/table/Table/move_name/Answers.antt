use Rattle.std.proofs.Common.{◌≡◌, Some}
use Rattle.std.specs.FinMap as fin
use Rattle.sequential_object.specs.Object.{FileNode}
use Rattle.sequential_object.specs.Paths.{components_of}
use Rattle.descriptor_table.specs.Table.{TableState}
use Rattle.descriptor_table.proofs.SoundLemmas.{sound-moved}
use Rattle.descriptor_table.proofs.table.Table.move_name.Goals as goal

pub invariant_of-self : goal.invariant_of-self
invariant_of-self c =
    let before : TableState =
    record {
      descriptors = c.self.inside.descriptors;
      descriptions = c.self.inside.descriptions;
      paths = c.self.inside.names;
      objects = c.self.inside.objects;
      made_objects = c.self.inside.made_objects;
    } in
    let old = components_of c.args.from.now in
    let its : fin.get before.paths old ≡ Some (FileNode c.args.object) =
    rw (← c.self.view_is) at c.requires.0 in
    rw c.move_name.ensures
    (sound-moved before old (components_of c.args.to.now) c.args.object its c.self.invariant)
