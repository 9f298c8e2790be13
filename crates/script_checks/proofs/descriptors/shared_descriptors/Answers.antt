use Rattle.std.proofs.Common.{arith}
use Rattle.script_checks.specs.Sharing.{AddsOf}
use Rattle.script_checks.proofs.Telling.{added_script, all_told, none_told}
use Rattle.script_checks.proofs.descriptors.shared_descriptors.Goals as goal

pub loop-i-init : goal.loop-i-init
loop-i-init c = (
  rw c.new-shared.ensures.items (none_told c.args.scripts.now),
  λ k script n below. absurd (omega arith),
)

pub loop-i-preserved : goal.loop-i-preserved
loop-i-preserved c =
    let adds : AddsOf c.args.scripts.now c.index-scripts-i.result c.loop-i.shared.items
    c.add_lines.new.shared.items = rw c.lines.ensures at c.in_ok-add_lines.ensures in (
      adds.once,
      added_script c.args.scripts.now c.loop-i.i c.index-scripts-i.result _ _
          c.loop-i-test.true c.index-scripts-i.is c.loop-i.invariant.1 adds,
    )

pub returns : goal.returns
returns c = all_told c.args.scripts.now c.loop-i.i c.loop-i.shared.items
    (omega arith) c.loop-i.invariant.0 c.loop-i.invariant.1
