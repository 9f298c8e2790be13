use Rattle.explorer.proofs.VariedCalls.{lines_have_moved, varied_calls}
use Rattle.explorer.proofs.VariedScripts.{varied_script}
use Rattle.explorer.proofs.laws.varied_is_script.Goals as goal

pub returns-clause-script : goal.returns-clause-script
returns-clause-script c = varied_script

pub returns-clause-places : goal.returns-clause-places
returns-clause-places c = lines_have_moved

pub returns-clause-calls : goal.returns-clause-calls
returns-clause-calls c = varied_calls
