use Rattle.std.proofs.Common.{ℕ, List, Option, sym, ap, ◌∙◌}
use Rattle.logical_clocks.specs.TurnOrder.{has_turn}
use Rattle.lock_machine.specs.Views.{clocks_of}
use Rattle.lock_model.specs.Runs.{own}
use Rattle.machine.specs.Runs.{terms_with}
use Rattle.machine.specs.Shown.{Shown}
use Rattle.machine.proofs.machine.Machine.has_turn.Goals as goal

pub returns-clause-shown : goal.returns-clause-shown
returns-clause-shown g c s at =
    let w = c.args.self.now.whole in
    c.has_turn.ensures ∙ ap (λ (x : Shown g.row.D.Denot). has_turn (clocks_of x.whole.threads) c.args.i) c.self.view_is
    ∙ ap (λ (clocks : List (Option ℕ)). has_turn clocks c.args.i)
    (sym (c.machines_show.ensures.clocks (terms_with w (own s)) w s at.1))
