use Rattle.call_turns.proofs.store.Store.write.Goals as goal

pub returns-in-Socket-clause-acts : goal.returns-in-Socket-clause-acts
returns-in-Socket-clause-acts c = rw c.in-Socket.is c.write_pair.ensures.acts
