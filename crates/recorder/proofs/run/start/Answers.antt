use Rattle.std.proofs.Common.{inr, vec_len}
use Rattle.input_log.specs.Headers.{header_for}
use Rattle.recorder.proofs.Ending.{not_cut}
use Rattle.recorder.proofs.run.start.Goals as goal

pub returns-in-Err-clause-run : goal.returns-in-Err-clause-run
returns-in-Err-clause-run g c = inr (rw (c.new-header.ensures, c.len.ensures) at c.without_log.ensures.log)

pub returns-in-Ok-new-clause-unstarted : goal.returns-in-Ok-new-clause-unstarted
returns-in-Ok-new-clause-unstarted g c part =
    absurd (not_cut _ (header_for c.args.settings (vec_len c.args.crew.actors)) _ _ _ _ _ _ c.run_with.ensures.run part)
