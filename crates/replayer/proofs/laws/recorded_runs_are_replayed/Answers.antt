use Rattle.replayer.proofs.Recorded as law
use Rattle.replayer.proofs.laws.recorded_runs_are_replayed.Goals as goal

pub returns : goal.returns
returns g c = law.retold c.known.ensures _ _
