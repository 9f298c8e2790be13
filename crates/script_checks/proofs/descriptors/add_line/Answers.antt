use Rattle.std.proofs.lemmas.Result.{on_ok_weaker}
use Rattle.std.proofs.Common.{◌≡◌, ◌∙◌, ap, sym, map, ◌++◌}
use Rattle.answered_calls.specs.OperandsSeen.{operand_seen}
use Rattle.script_checks.specs.Sharing.{fixed_descriptors, fixed_operand}
use Rattle.script_checks.proofs.Telling.{added_operands}
use Rattle.script_checks.proofs.descriptors.add_line.Goals as goal

pub returns : goal.returns
returns c =
    let o = c.operands-operands.result in
    let is : fixed_descriptors c.args.line.now
    ≡ map fixed_operand (operand_seen o.first ++ (operand_seen o.second ++ operand_seen o.third)) =
    ap fixed_descriptors c.in-Call.is ∙ ap (map fixed_operand) (sym c.operands-operands.ensures.listed) in
    on_ok_weaker c.add_operand-3.result
    (λ third. added_operands c.args.scripts.now c.args.line.now o.first o.second o.third _ _ _ _ is
    c.in_ok-add_operand.ensures c.in_ok-add_operand-2.ensures third) c.add_operand-3.ensures
