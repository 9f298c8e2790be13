use Rattle.lock_model.proofs.Arising.{prefix_own}
use Rattle.lock_model.proofs.Begins.{prefix_law}
use Rattle.lock_model.proofs.Follows.{prefix_came, prefix_followed}
use Rattle.lock_model.proofs.Plain.{stuck_law}
use Rattle.lock_model.proofs.prefix_law.Goals as goal

pub returns-clause-under_supply : goal.returns-clause-under_supply
returns-clause-under_supply c = prefix_law

pub returns-clause-under_came : goal.returns-clause-under_came
returns-clause-under_came c = prefix_came

pub returns-clause-under_own : goal.returns-clause-under_own
returns-clause-under_own c = prefix_own

pub returns-clause-under_followed : goal.returns-clause-under_followed
returns-clause-under_followed c = prefix_followed

pub returns-clause-stuck : goal.returns-clause-stuck
returns-clause-stuck c = stuck_law
