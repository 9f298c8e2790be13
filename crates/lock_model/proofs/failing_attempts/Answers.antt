use Rattle.lock_model.proofs.Skipping.{skip_law}
use Rattle.lock_model.proofs.failing_attempts.Goals as goal

pub returns : goal.returns
returns c = skip_law
