use Rattle.call_machine.proofs.Agreeing.{one_plain_run}
use Rattle.call_machine.proofs.laws.plain_runs_agree.Goals as goal

pub returns : goal.returns
returns c = one_plain_run
