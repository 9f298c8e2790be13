use Rattle.std.proofs.lemmas.Result.{IfOk-weaker}
use Rattle.commands.specs.Replays.{TextsReplay, RanPrints}
use Rattle.commands.specs.Ran.{ThreadsRan}
use Rattle.command_inputs.specs.declared.running.ToRun.TheVariants as runs
use Rattle.commands.proofs.replay.texts_replayed_by_threads.Goals as goal

pub returns-in_ok-ran-in-Scripts : goal.returns-in_ok-ran-in-Scripts
returns-in_ok-ran-in-Scripts g c =
    let options = c.args.options in
    let texts = c.args.texts.now in
    let scripts = c.in-Scripts.scripts in
    let ran = c.in_ok-ran-in-Scripts.ran in
    let run = rw c.in-Scripts.is at c.in_ok-scripts.ensures.run in
    let comes = rw c.as_slice.ensures at c.in_ok-ran-in-Scripts.ensures in
    IfOk-weaker c.ran_printed.result (RanPrints options c.args.log.now texts ran)
    (TextsReplay ThreadsRan options c.args.log.now texts)
    (λ printed prints. (runs.Scripts scripts, run, (ran, comes, prints))) c.ran_printed.ensures
