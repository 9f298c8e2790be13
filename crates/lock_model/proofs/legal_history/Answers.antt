use Rattle.lock_model.proofs.Legal.{legal_law}
use Rattle.lock_model.proofs.Rising.{rising_law}
use Rattle.lock_model.proofs.legal_history.Goals as goal

pub returns-clause-legal : goal.returns-clause-legal
returns-clause-legal c = legal_law

pub returns-clause-rising : goal.returns-clause-rising
returns-clause-rising c = rising_law
