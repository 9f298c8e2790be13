use Rattle.lock_model.proofs.Holder.{ended_or_turn, holder_there, holder_turn}
use Rattle.lock_model.proofs.Turn.{turn_unique}
use Rattle.lock_model.proofs.turn_order.Goals as goal

pub returns-clause-one : goal.returns-clause-one
returns-clause-one c = turn_unique

pub returns-clause-holder : goal.returns-clause-holder
returns-clause-holder c = holder_turn

pub returns-clause-some : goal.returns-clause-some
returns-clause-some c = holder_there

pub returns-clause-ended : goal.returns-clause-ended
returns-clause-ended c = ended_or_turn
