use Rattle.std.proofs.Common.{sym, ◌∙◌}
use Rattle.posix_terms.proofs.Equality.{call_Decides}
use Rattle.posix_terms.proofs.packed_row.is_same_call.Goals as goal

pub returns : goal.returns
returns c =
    let decides = call_Decides c.args.one.now c.args.other.now in
    (λ h. decides.0 (sym c.eq.ensures ∙ h), λ h. c.eq.ensures ∙ decides.1 h)
