use Rattle.descriptor_table.specs.Laws.{Follows}
use Rattle.descriptor_table.proofs.table.Table.decide.Goals as goal

pub returns-clause-step : goal.returns-clause-step
returns-clause-step c = λ s shows.
    let law = c.table_follows_step.ensures.follows in
    let follows : Follows c.args.self.now c.args.call.now c.args.so_far =
    law.calls c.args.self.now c.args.call.now c.args.so_far c.known.ensures.table c.known.ensures.descriptions in
    rw c.decide_call.ensures (follows.step s shows)
