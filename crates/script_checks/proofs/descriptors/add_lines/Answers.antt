use Rattle.script_checks.proofs.Telling.{added_lines}
use Rattle.script_checks.proofs.descriptors.add_lines.Goals as goal

pub loop-i-preserved : goal.loop-i-preserved
loop-i-preserved c = added_lines c.args.scripts.now c.args.lines.now c.loop-i.i
    c.index-lines-i.result _ _ _ c.loop-i-test.true c.index-lines-i.is c.loop-i.invariant
    c.in_ok-add_line.ensures
