use Rattle.std.proofs.Common.{refl}
use Rattle.thread_scripts.specs.ScriptPrograms.{at_start, next_at, reached_after}
use Rattle.thread_scripts.proofs.ScriptEnds.{scripts_end}
use Rattle.thread_scripts.proofs.laws.programs_of_scripts.Goals as goal

pub returns-clause-next : goal.returns-clause-next
returns-clause-next c = λ script asked replies. (next_at (reached_after (at_start script) asked replies), refl)

pub returns-clause-end : goal.returns-clause-end
returns-clause-end c = scripts_end c.runs_end.ensures
