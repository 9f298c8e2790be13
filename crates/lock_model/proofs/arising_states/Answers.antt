use Rattle.lock_model.proofs.Times.{times_arisen}
use Rattle.lock_model.proofs.Arising.{arises_event, arises_run, arises_start, legal_arisen, dated_arisen}
use Rattle.lock_model.proofs.Follows.{run_follows}
use Rattle.lock_model.proofs.OwnPlans.{plans_arisen}
use Rattle.lock_model.proofs.OwnRows.{held_arisen, rows_arisen}
use Rattle.lock_model.proofs.OwnSteps.{steps_arisen}
use Rattle.lock_model.proofs.Rising.{rising_arisen}
use Rattle.lock_model.proofs.arising_states.Goals as goal

pub returns-clause-at_start : goal.returns-clause-at_start
returns-clause-at_start c = arises_start

pub returns-clause-by_event : goal.returns-clause-by_event
returns-clause-by_event c = arises_event

pub returns-clause-by_run : goal.returns-clause-by_run
returns-clause-by_run c = arises_run

pub returns-clause-follows : goal.returns-clause-follows
returns-clause-follows c = run_follows

pub returns-clause-legal : goal.returns-clause-legal
returns-clause-legal c = legal_arisen

pub returns-clause-rising : goal.returns-clause-rising
returns-clause-rising c = rising_arisen

pub returns-clause-dated : goal.returns-clause-dated
returns-clause-dated c = dated_arisen

pub returns-clause-times : goal.returns-clause-times
returns-clause-times c = times_arisen

pub returns-clause-locks : goal.returns-clause-locks
returns-clause-locks c = held_arisen

pub returns-clause-rows : goal.returns-clause-rows
returns-clause-rows c = rows_arisen

pub returns-clause-plans : goal.returns-clause-plans
returns-clause-plans c = plans_arisen

pub returns-clause-steps : goal.returns-clause-steps
returns-clause-steps c = steps_arisen
