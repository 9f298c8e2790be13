use Rattle.descriptor_table.proofs.table.Table.apply_decision.Goals as goal
use Rattle.descriptor_table.proofs.table.Table.apply_decision.Goals.{in-Replies, in-Locks}

pub returns-clause-shows : goal.returns-clause-shows
returns-clause-shows c = λ s shows.
    elim c.match-decision.branch [
      | in-Replies w ↦ rw (w.self-is, w.in-Replies.is) (w.carry_out.ensures.shows s shows)
      | in-Locks w ↦ rw (w.self-is, w.in-Locks.is) (w.apply_deed.ensures.shows s shows)
    ]
