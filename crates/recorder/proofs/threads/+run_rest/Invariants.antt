use Rattle.std.proofs.Common.{length}
use Rattle.recorder.proofs.threads.+run_rest.Given as goal

abbrev pub decreases-run_rest : goal.decreases-run_rest
decreases-run_rest g l = length l.actors.now.items
