use Rattle.descriptor_table.proofs.CanLemmas.{number_free}
use Rattle.descriptor_table.proofs.DoorLemmas.{door_adds}
use Rattle.descriptor_table.proofs.FreeLemmas.{next_object}
use Rattle.descriptor_table.proofs.NumberLemmas.{door_stay}
use Rattle.descriptor_table.proofs.ShowsLemmas.{shows-door}
use Rattle.descriptor_table.proofs.table.Table.open_door.Goals as goal

pub make_door-requires-clause-free : goal.make_door-requires-clause-free
make_door-requires-clause-free c = number_free c.args.self.now c.args.new.number c.requires.free

pub make_door-requires-clause-next : goal.make_door-requires-clause-next
make_door-requires-clause-next c = next_object c.args.self.now c.args.new.object c.requires.next

pub returns-clause-shows : goal.returns-clause-shows
returns-clause-shows c = λ s shows.
    shows-door c.changes_keep_sound.ensures c.args.self.now s c.known.ensures.table c.known.ensures.descriptions shows
    c.args.call.now c.args.new c.args.value c.make_door.new.self
    (number_free c.args.self.now c.args.new.number c.requires.free).0
    (next_object c.args.self.now c.args.new.object c.requires.next) c.make_door.ensures.opened

pub returns-clause-numbers : goal.returns-clause-numbers
returns-clause-numbers c =
    door_stay c.args.self.now c.args.call.now c.args.new c.args.value c.make_door.new.self c.known.ensures.table
    (next_object c.args.self.now c.args.new.object c.requires.next) c.make_door.ensures.opened

pub returns-clause-doors : goal.returns-clause-doors
returns-clause-doors c =
    door_adds c.args.self.now c.args.call.now c.args.new c.args.value c.make_door.new.self c.make_door.ensures.opened
