use Rattle.lock_model.proofs.Arising.{own_finite}
use Rattle.lock_model.proofs.Ends.{each_lowers, ends_before, ends_here, one_more, plain_is_run, some_end}
use Rattle.lock_model.proofs.Plain.{over_still, unique_end}
use Rattle.lock_model.proofs.plain_run_ends.Goals as goal

pub returns-clause-unique : goal.returns-clause-unique
returns-clause-unique c = unique_end

pub returns-clause-ends : goal.returns-clause-ends
returns-clause-ends c = some_end

pub returns-clause-own_finite : goal.returns-clause-own_finite
returns-clause-own_finite c = own_finite

pub returns-clause-lowers : goal.returns-clause-lowers
returns-clause-lowers c = each_lowers

pub returns-clause-over : goal.returns-clause-over
returns-clause-over c = over_still

pub returns-clause-here : goal.returns-clause-here
returns-clause-here c = ends_here

pub returns-clause-next : goal.returns-clause-next
returns-clause-next c = ends_before

pub returns-clause-more : goal.returns-clause-more
returns-clause-more c = one_more

pub returns-clause-is_run : goal.returns-clause-is_run
returns-clause-is_run c = plain_is_run
