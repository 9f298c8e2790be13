use Rattle.std.proofs.Common.{sym, ◌∙◌}
use Rattle.worker_notes.proofs.Replying.{last_reply_is, last_reply_none}
use Rattle.worker_notes.proofs.own.last_reply.Goals as goal

pub returns-in-Some : goal.returns-in-Some
returns-in-Some c = c.as_ref.ensures.value
    ∙ (sym (last_reply_is c.args.steps.now c.in-Some.noted.now (sym c.in-Some.ensures.value)))

pub returns-in-None : goal.returns-in-None
returns-in-None c = sym (last_reply_none c.args.steps.now (sym c.in-None.ensures.value))
