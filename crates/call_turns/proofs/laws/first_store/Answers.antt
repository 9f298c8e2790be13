use Rattle.call_turns.proofs.Standing.{stands_first}
use Rattle.call_turns.proofs.laws.first_store.Goals as goal

pub returns : goal.returns
returns c = stands_first c.table_follows_step.ensures.follows
