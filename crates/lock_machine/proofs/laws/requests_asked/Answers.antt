use Rattle.lock_machine.proofs.Requests.{asked_by_call, asked_kind, asked_little}
use Rattle.lock_machine.proofs.laws.requests_asked.Goals as goal

pub returns-clause-little : goal.returns-clause-little
returns-clause-little c = asked_little c.decided_so.ensures

pub returns-clause-kinds : goal.returns-clause-kinds
returns-clause-kinds c = asked_kind c.decided_so.ensures

pub returns-clause-calls : goal.returns-clause-calls
returns-clause-calls c = asked_by_call c.decided_so.ensures
