use Rattle.std.proofs.Common.{◌∙◌, ap}
use Rattle.call_machine.specs.Plain.{counts_fit}
use Rattle.commands.proofs.plain.texts_printed.Goals as goal

pub scripts_run-requires : goal.scripts_run-requires
scripts_run-requires g c =
    let each = rw c.in-Scripts.is at c.in_ok-scripts.ensures.each in
    ap (λ n. counts_fit n n) each ∙ c.requires
