use Rattle.std.proofs.Common.{sym, ap, ◌∙◌, subst}
use Rattle.lock_machine.specs.Phases.{ShowsPhase}
use Rattle.lock_machine.specs.Whole.{thread_at}
use Rattle.lock_machine.specs.declared.thread.Phase.{Phase}
use Rattle.lock_model.specs.Runs.{own}
use Rattle.lock_model.specs.State.{thread_of}
use Rattle.machine.specs.Runs.{terms_with}
use Rattle.machine.specs.Shown.{Shown}
use Rattle.machine.proofs.machine.Machine.phase.Goals as goal

pub returns-clause-shown : goal.returns-clause-shown
returns-clause-shown g c s at =
    let w = c.args.self.now.whole in
    let i = c.args.i in
    let phase = c.phase.ensures ∙ ap (λ (x : Shown g.row.D.Denot). (thread_at x.whole i).phase) c.self.view_is in
    subst (λ (p : Phase). ShowsPhase p (thread_of s i).phase) (sym phase)
    (c.machines_show.ensures.phases (terms_with w (own s)) w s at.1 i)
