use Rattle.std.proofs.Common.{◌∙◌, ℕ, Option, ap, sym}
use Rattle.logical_clocks.proofs.LiveLemmas.{is_holder, turn_by_holder}
use Rattle.logical_clocks.proofs.clocks.Clocks.is_turn.Goals as goal

pub returns-in-Some : goal.returns-in-Some
returns-in-Some c =
    sym
    (turn_by_holder c.args.self.now c.args.i
    ∙ ap (λ (o : Option ℕ). is_holder o c.args.i) (sym c.turn_holder.ensures ∙ c.in-Some.is))

pub returns-in-None : goal.returns-in-None
returns-in-None c =
    sym
    (turn_by_holder c.args.self.now c.args.i
    ∙ ap (λ (o : Option ℕ). is_holder o c.args.i) (sym c.turn_holder.ensures ∙ c.in-None.is))
