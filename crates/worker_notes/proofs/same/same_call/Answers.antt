use Rattle.worker_notes.proofs.same.same_call.Goals as goal

pub returns : goal.returns
returns c = rw c.eq.ensures (c.equal_ones_are_the_same.ensures.calls c.args.one.now c.args.other.now)
