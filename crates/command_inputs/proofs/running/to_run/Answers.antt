use Rattle.command_inputs.proofs.Scripts.{scripts_count}
use Rattle.command_inputs.proofs.running.to_run.Goals as goal

pub returns-2-clause-each : goal.returns-2-clause-each
returns-2-clause-each c =
    scripts_count c.args.texts.now c.in-Ok.scripts.items c.in-Ok.ensures
