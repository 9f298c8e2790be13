use Rattle.std.proofs.Common.{◌≡◌, length, map, sym, ap, ◌∙◌, rules}
use Rattle.std.proofs.lemmas.List.{length-map, length-replicate}
use Rattle.lock_machine.specs.Starting.{first_thread, first_whole}
use Rattle.lock_machine.specs.Whole.{Whole}
use Rattle.call_machine.specs.Starting.{first_player, settings_of}
use Rattle.call_machine.proofs.driver.Driver.new.Goals as goal

pub invariant_of-result : goal.invariant_of-result
invariant_of-result c =
    let scripts = c.args.scripts.items in
    let machine : c.in_ok-new_from.field-0 ≡ first_whole (settings_of c.args.header) (length scripts) = search rules in
    let players : c.in_ok-first_players.field-0.items ≡ map first_player scripts = search rules in
    let threads = ap (λ (w : Whole). length w.threads) machine ∙ length-replicate (length scripts) first_thread in
    record { seats = ap length players ∙ length-map scripts first_player ∙ sym threads }
