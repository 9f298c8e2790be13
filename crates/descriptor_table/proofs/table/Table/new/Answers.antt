use Rattle.descriptor_table.proofs.SoundLemmas.{sound-empty}
use Rattle.descriptor_table.proofs.ShownLemmas.{shows-empty}
use Rattle.descriptor_table.proofs.table.Table.new.Goals as goal

pub invariant_of-result : goal.invariant_of-result
invariant_of-result c = rw (c.in_ok-new.ensures, c.new-2.ensures) sound-empty

pub returns-clause-shows : goal.returns-clause-shows
returns-clause-shows c = rw (c.in_ok-new.ensures, c.new-2.ensures) shows-empty
