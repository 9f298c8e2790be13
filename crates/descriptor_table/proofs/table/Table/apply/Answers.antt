use Rattle.descriptor_table.proofs.table.Table.apply.Goals as goal

pub returns-in-Ok-clause-shows : goal.returns-in-Ok-clause-shows
returns-in-Ok-clause-shows c = λ not_refused s shows.
    rw (← c.decide.ensures.decided, c.in-Ok.is) (c.apply_decision.ensures.shows s shows)
