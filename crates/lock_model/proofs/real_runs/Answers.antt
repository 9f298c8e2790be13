use Rattle.posix_terms.specs.declared.limits.TheConstants.Limits as limit
use Rattle.sequential_object.specs.Numbers.{first_world}
use Rattle.lock_model.specs.RealLaws.{real_setup, real_start}
use Rattle.lock_model.proofs.Ends.{some_end}
use Rattle.lock_model.proofs.RealLaws.{real_legal, real_legal_arisen, real_prefix}
use Rattle.lock_model.proofs.Rising.{rising_law}
use Rattle.lock_model.proofs.real_runs.Goals as goal

pub returns-clause-legal : goal.returns-clause-legal
returns-clause-legal c = real_legal c.calls_outside.ensures.locks c.calls_outside.ensures.leaves

pub returns-clause-arisen : goal.returns-clause-arisen
returns-clause-arisen c = real_legal_arisen c.calls_outside.ensures.locks c.calls_outside.ensures.leaves

pub returns-clause-rising : goal.returns-clause-rising
returns-clause-rising c = λ settings supply threads events. rising_law (real_setup settings supply) threads
    limit.OBJECTS first_world events

pub returns-clause-prefix : goal.returns-clause-prefix
returns-clause-prefix c = real_prefix

pub returns-clause-ends : goal.returns-clause-ends
returns-clause-ends c = λ settings supply threads finite. some_end (real_setup settings supply) (real_start threads)
    finite
