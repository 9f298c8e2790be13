use Rattle.logical_clocks.specs.ThreadClocks.{clock_at}
use Rattle.lock_machine.proofs.EventShows.{asked_want}
use Rattle.lock_machine.proofs.thread.Thread.ask.Goals as goal

pub returns-in-Call-clause-event : goal.returns-in-Call-clause-event
returns-in-Call-clause-event c =
    asked_want c.want.result (clock_at c.args.clocks.now c.args.i) c.args.step c.in-Call.call c.args.self.now
    c.want.new.self c.in-Call.is c.want.ensures.event
