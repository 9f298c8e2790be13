use Rattle.expectations.proofs.OneFirst.{none_where_met, one_first}
use Rattle.expectations.proofs.laws.one_first_unmet.Goals as goal

pub returns-clause-none : goal.returns-clause-none
returns-clause-none c = none_where_met

pub returns-clause-one : goal.returns-clause-one
returns-clause-one c = one_first
