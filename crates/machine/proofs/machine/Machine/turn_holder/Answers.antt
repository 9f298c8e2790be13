use Rattle.std.proofs.Common.{sym, ap, ◌∙◌}
use Rattle.logical_clocks.specs.TurnOrder.{turn_holder}
use Rattle.lock_machine.specs.Views.{clocks_of}
use Rattle.lock_model.specs.Runs.{own}
use Rattle.machine.specs.Runs.{terms_with}
use Rattle.machine.specs.Shown.{Shown}
use Rattle.machine.proofs.machine.Machine.turn_holder.Goals as goal

pub returns-clause-shown : goal.returns-clause-shown
returns-clause-shown g c s at =
    let w = c.args.self.now.whole in
    c.turn_holder.ensures.holder ∙ ap (λ (x : Shown g.row.D.Denot). turn_holder (clocks_of x.whole.threads))
    c.self.view_is ∙ ap turn_holder (sym (c.machines_show.ensures.clocks (terms_with w (own s)) w s at.1))
