use Rattle.descriptor_table.proofs.SoundLemmas.{sound-empty}
use Rattle.descriptor_table.proofs.table.Table.reset.Goals as goal

pub invariant_of-self : goal.invariant_of-self
invariant_of-self c = rw (c.reset.ensures, c.reset-2.ensures) sound-empty
