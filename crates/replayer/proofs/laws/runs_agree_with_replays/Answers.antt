use Rattle.replayer.proofs.Recorded as law
use Rattle.replayer.proofs.laws.runs_agree_with_replays.Goals as goal

pub returns : goal.returns
returns g c = law.agree c.known.ensures _
