use Rattle.std.proofs.Common.{sym, ◌∙◌}
use Rattle.worker_notes.proofs.Replying.{open_call_is}
use Rattle.worker_notes.proofs.own.open_call.Goals as goal

pub returns : goal.returns
returns c = c.call_in.ensures ∙ sym
    (open_call_is c.args.steps.now c.in_ok-last.last.now (sym c.in_ok-last.ensures.value))
