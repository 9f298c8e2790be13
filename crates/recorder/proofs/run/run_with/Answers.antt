use Rattle.recorder.proofs.run.run_with.Goals as goal

pub returns-clause-agrees : goal.returns-clause-agrees
returns-clause-agrees g c = rw c.conclude.ensures.own c.conclude.ensures.agrees

pub returns-clause-told : goal.returns-clause-told
returns-clause-told g c = rw (c.conclude.ensures.own, c.conclude.ensures.actors, c.conclude.ensures.outsides)
    c.run_all-gathered.ensures
