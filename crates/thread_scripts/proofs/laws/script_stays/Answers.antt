use Rattle.thread_scripts.proofs.Ending.{next_script}
use Rattle.thread_scripts.proofs.laws.script_stays.Goals as goal

pub returns : goal.returns
returns c = next_script
