use Rattle.thread_scripts.proofs.Ending.{next_ends}
use Rattle.thread_scripts.proofs.laws.runs_end.Goals as goal

pub returns : goal.returns
returns c = next_ends
