use Rattle.std.proofs.Common.{◌≡◌, true, length, rules}
use Rattle.call_machine.specs.Plain.{are_threads}
use Rattle.machine.specs.Starting.{are_settings}
use Rattle.input_log.specs.Fronts.{IsFront}
use Rattle.input_log.specs.Grammar.{IsLog}
use Rattle.replayer.specs.Replay.{inputs_of}
use Rattle.replayer.proofs.Fronts.{front_is_log, settings_fit, threads_fit}
use Rattle.replayer.proofs.run.run_by_text.Goals as goal

pub unreachable-requires : goal.unreachable-requires
unreachable-requires g c =
    let log = c.in_ok-log.log in
    let front : IsFront c.args.text.now log = search rules in
    let is : IsLog log = front_is_log c.args.text.now log front in
    let threads : log.header.threads ≡ length c.args.scripts.items = search rules in
    let fit : are_threads (inputs_of log c.args.scripts.items) ≡ true =
    threads_fit log.header (length c.args.scripts.items) log.records is.range threads in
    search rules

pub unreachable-requires-in-Err-Settings : goal.unreachable-requires-in-Err-Settings
unreachable-requires-in-Err-Settings g c =
    let log = c.in_ok-log.log in
    let front : IsFront c.args.text.now log = search rules in
    let is : IsLog log = front_is_log c.args.text.now log front in
    let fit : are_settings (inputs_of log c.args.scripts.items).settings ≡ true = settings_fit log.header is.range in
    search rules
