use Rattle.std.proofs.Common.{◌≡◌, None, true, refl}
use Rattle.std.specs.FinMap as fin
use Rattle.std.specs.Prelude.{slice_index_or}
use Rattle.file_descriptions.specs.Descriptions.{new_description, with_new}
use Rattle.descriptor_table.specs.Table.{TableState, is_used}
use Rattle.descriptor_table.proofs.SoundLemmas.{room_of, sound-opened}
use Rattle.descriptor_table.proofs.table.Table.open_number.Goals as goal

pub unwrap-key-requires : goal.unwrap-key-requires
unwrap-key-requires c =
    let before : TableState = record {
      descriptors = c.self.inside.descriptors;
      descriptions = c.self.inside.descriptions;
      paths = c.self.inside.names;
      objects = c.self.inside.objects;
      made_objects = c.self.inside.made_objects;
    } in
    let free : slice_index_or before.descriptors c.args.number None ≡ None =
    rw (← c.self.view_is) at c.requires.free.1 in
    c.make.ensures.room.1 (room_of before c.args.number c.self.invariant c.make.ensures.sound c.requires.free.0 free)

pub invariant_of-self : goal.invariant_of-self
invariant_of-self c =
    let before : TableState = record {
      descriptors = c.self.inside.descriptors;
      descriptions = c.self.inside.descriptions;
      paths = c.self.inside.names;
      objects = c.self.inside.objects;
      made_objects = c.self.inside.made_objects;
    } in
    let key = c.unwrap-key.result in
    let new = new_description c.args.object c.args.«end» c.args.access c.args.flags before.descriptions.made in
    let free : slice_index_or before.descriptors c.args.number None ≡ None =
    rw (← c.self.view_is) at c.requires.free.1 in
    let fresh : fin.get before.descriptions.by_key key ≡ None = rw c.unwrap-key.ensures at c.make.ensures.free in
    let there : is_used before c.args.object ≡ true = rw (← c.self.view_is) at c.requires.there in
    let made : c.make.new.self ≡ with_new before.descriptions key new =
    rw c.unwrap-key.ensures at c.make.ensures.made in
    rw made (sound-opened before c.args.number key new c.self.invariant c.requires.free.0 free fresh refl there)
