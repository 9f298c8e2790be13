use Rattle.descriptor_table.proofs.table.Table.apply_opening.Goals as goal

pub returns-in-Some-clause-shows : goal.returns-in-Some-clause-shows
returns-in-Some-clause-shows c = λ s shows. rw c.in-Some.is (c.open_door.ensures.shows s shows)
