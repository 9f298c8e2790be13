use Rattle.std.proofs.Common.{refl}
use Rattle.file_descriptions.specs.Descriptions.{ContainsKey, description_at}
use Rattle.descriptor_table.specs.Table.{TableState}
use Rattle.sequential_object.specs.Object.{State}
use Rattle.file_descriptions.specs.Descriptions.{AreSound}
use Rattle.descriptor_table.specs.Shows.{Shows}
use Rattle.descriptor_table.proofs.ChangeLemmas.{shows-set_offset}
use Rattle.descriptor_table.proofs.SoundLemmas.{sound-kept}
use Rattle.descriptor_table.proofs.table.Table.set_offset.Goals as goal

pub invariant_of-self : goal.invariant_of-self
invariant_of-self c =
    let before : TableState = record {
      descriptors = c.self.inside.descriptors;
      descriptions = c.self.inside.descriptions;
      paths = c.self.inside.names;
      objects = c.self.inside.objects;
      made_objects = c.self.inside.made_objects;
    } in
    let known : ContainsKey before.descriptions c.args.key = rw (← c.self.view_is) at c.requires in
    rw c.set_offset.ensures (sound-kept before c.args.key
    (record (description_at before.descriptions c.args.key) { offset = c.args.offset }) c.self.invariant known refl
    refl)

pub returns-clause-shows : goal.returns-clause-shows
returns-clause-shows c = λ (s : State) (shows : Shows c.args.self.now s).
    let before : TableState = record {
      descriptors = c.self.inside.descriptors;
      descriptions = c.self.inside.descriptions;
      paths = c.self.inside.names;
      objects = c.self.inside.objects;
      made_objects = c.self.inside.made_objects;
    } in
    let known : ContainsKey before.descriptions c.args.key = rw (← c.self.view_is) at c.requires in
    let all : AreSound before.descriptions = rw (← c.self.view_is) at c.known.ensures.descriptions in
    let shown : Shows before s = rw (← c.self.view_is) at shows in
    rw (← c.self.view_is, c.set_offset.ensures) (shows-set_offset before s c.args.key c.args.offset all known shown)
