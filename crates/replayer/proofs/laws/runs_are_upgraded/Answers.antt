use Rattle.replayer.proofs.Upgrading as law
use Rattle.replayer.proofs.laws.runs_are_upgraded.Goals as goal

pub returns-clause-any : goal.returns-clause-any
returns-clause-any c = law.any c.known.ensures

pub returns-clause-plain : goal.returns-clause-plain
returns-clause-plain c = law.plain c.known.ensures

pub returns-clause-refused : goal.returns-clause-refused
returns-clause-refused c = law.refused_alike c.known.ensures
