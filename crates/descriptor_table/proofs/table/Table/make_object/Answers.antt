use Rattle.std.proofs.Common.{◌≡◌, None}
use Rattle.descriptor_table.proofs.ObjectLemmas.{slot}
use Rattle.descriptor_table.specs.Table.{TableState}
use Rattle.descriptor_table.proofs.SoundLemmas.{sound-with_object}
use Rattle.descriptor_table.proofs.table.Table.make_object.Goals as goal

pub invariant_of-self : goal.invariant_of-self
invariant_of-self c =
    let before : TableState = record {
      descriptors = c.self.inside.descriptors;
      descriptions = c.self.inside.descriptions;
      paths = c.self.inside.names;
      objects = c.self.inside.objects;
      made_objects = c.self.inside.made_objects;
    } in
    let free : slot before.objects c.args.object ≡ None = rw (← c.self.view_is) at c.requires.next.1 in
    sound-with_object before c.args.object c.requires.next.0 free c.self.invariant
