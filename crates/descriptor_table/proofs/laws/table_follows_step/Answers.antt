use Rattle.descriptor_table.proofs.Following.{table_follows}
use Rattle.descriptor_table.proofs.laws.table_follows_step.Goals as goal

pub returns : goal.returns
returns c = record {
  follows = table_follows c.changes_keep_sound.ensures c.names_do_not_matter.ensures
      c.decided_so.ensures;
}
