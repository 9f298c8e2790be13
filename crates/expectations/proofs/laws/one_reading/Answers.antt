use Rattle.expectations.proofs.OneReading.{not_both, one_bad, one_list}
use Rattle.expectations.proofs.laws.one_reading.Goals as goal

pub returns-clause-list : goal.returns-clause-list
returns-clause-list c = one_list

pub returns-clause-bad : goal.returns-clause-bad
returns-clause-bad c = one_bad

pub returns-clause-apart : goal.returns-clause-apart
returns-clause-apart c = not_both
