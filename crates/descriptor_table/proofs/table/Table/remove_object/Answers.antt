use Rattle.std.proofs.Common.{◌≡◌, true}
use Rattle.descriptor_table.specs.Table.{TableState, is_gone}
use Rattle.descriptor_table.proofs.SoundLemmas.{sound-freed}
use Rattle.descriptor_table.proofs.table.Table.remove_object.Goals as goal

pub invariant_of-self : goal.invariant_of-self
invariant_of-self c =
    let before : TableState = record {
      descriptors = c.self.inside.descriptors;
      descriptions = c.self.inside.descriptions;
      paths = c.self.inside.names;
      objects = c.self.inside.objects;
      made_objects = c.self.inside.made_objects;
    } in
    let gone : is_gone before c.args.object ≡ true = rw (← c.self.view_is) at c.requires in
    sound-freed before c.args.object gone c.self.invariant
