use Rattle.lock_machine.proofs.Beginning.{shows_at_start}
use Rattle.lock_machine.proofs.ShownPhases.{phases_shown}
use Rattle.lock_machine.proofs.Turning.{clocks_shown}
use Rattle.lock_machine.proofs.laws.machines_show.Goals as goal

pub returns-clause-start : goal.returns-clause-start
returns-clause-start c = shows_at_start c.first_store.ensures

pub returns-clause-clocks : goal.returns-clause-clocks
returns-clause-clocks c = clocks_shown

pub returns-clause-phases : goal.returns-clause-phases
returns-clause-phases c = phases_shown
