use Rattle.replayer.proofs.Upgrading as law
use Rattle.replayer.proofs.laws.recorded_runs_are_upgraded.Goals as goal

pub returns : goal.returns
returns g c = law.recorded c.known.ensures _ _
