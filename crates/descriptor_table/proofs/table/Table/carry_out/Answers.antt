use Rattle.descriptor_table.proofs.CanLemmas.{can_so}
use Rattle.descriptor_table.proofs.DoorLemmas.{changed_adds, changed_ends}
use Rattle.descriptor_table.proofs.NumberLemmas.{numbers-stay}
use Rattle.descriptor_table.proofs.ShowsLemmas.{shows_changed}
use Rattle.descriptor_table.proofs.table.Table.carry_out.Goals as goal

pub change-requires-clause-can : goal.change-requires-clause-can
change-requires-clause-can c = can_so c.args.self.now c.args.call.now c.args.change c.known.ensures.table c.requires.can

pub returns-clause-shows : goal.returns-clause-shows
returns-clause-shows c = λ s shows.
    shows_changed c.changes_keep_sound.ensures c.args.self.now c.change.new.self s c.args.call.now c.args.change
    c.known.ensures.table c.known.ensures.descriptions shows c.requires.can c.change.ensures

pub returns-clause-numbers : goal.returns-clause-numbers
returns-clause-numbers c =
    numbers-stay c.args.self.now c.args.call.now c.args.change c.change.new.self c.known.ensures.table
    (can_so c.args.self.now c.args.call.now c.args.change c.known.ensures.table c.requires.can) c.change.ensures

pub returns-clause-doors : goal.returns-clause-doors
returns-clause-doors c = changed_adds c.args.self.now c.args.call.now c.args.change c.change.new.self c.change.ensures

pub returns-clause-ends : goal.returns-clause-ends
returns-clause-ends c = changed_ends c.args.self.now c.args.call.now c.args.change c.change.new.self c.change.ensures
