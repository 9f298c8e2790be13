use Rattle.std.proofs.Common.{◌≡◌, ◌<◌, length, None, arith}
use Rattle.sequential_object.specs.Paths.{components_of}
use Rattle.descriptor_table.proofs.ObjectLemmas.{slot}
use Rattle.descriptor_table.specs.Table.{TableState}
use Rattle.descriptor_table.proofs.SoundLemmas.{sound-with_file}
use Rattle.descriptor_table.proofs.table.Table.make_file.Goals as goal

pub invariant_of-self : goal.invariant_of-self
invariant_of-self c =
    let before : TableState = record {
      descriptors = c.self.inside.descriptors;
      descriptions = c.self.inside.descriptions;
      paths = c.self.inside.names;
      objects = c.self.inside.objects;
      made_objects = c.self.inside.made_objects;
    } in
    let free : slot before.objects c.args.object ≡ None = rw (← c.self.view_is) at c.requires.next.1 in
    let inside : c.args.object < length before.objects =
    omega (arith, c.requires.next.0, c.self.invariant.object_numbers) in
    rw c.insert.ensures (sound-with_file before (components_of c.args.path.now) c.args.object inside free
    c.self.invariant)
