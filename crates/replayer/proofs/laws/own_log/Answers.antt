use Rattle.replayer.proofs.OwnLog as law
use Rattle.replayer.proofs.laws.own_log.Goals as goal

pub returns : goal.returns
returns c = law.own_log c.known.ensures.plain
