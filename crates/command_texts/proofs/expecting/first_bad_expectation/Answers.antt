use Rattle.std.proofs.Common.{All, subst, arith}
use Rattle.std.proofs.lemmas.List.{take_all}
use Rattle.std.proofs.lemmas.List.Elements.{All-more}
use Rattle.command_texts.specs.Expecting.{IsGood}
use Rattle.command_texts.proofs.expecting.first_bad_expectation.Goals as goal

pub loop-script-preserved : goal.loop-script-preserved
loop-script-preserved c =
    let text = c.index-texts-script in
    let good = rw (c.in_default.is, c.as_slice.ensures) at c.in_ok-line.ensures in
    All-more IsGood c.args.texts.now c.loop-script.script text.result c.loop-script-test.true
    c.loop-script.invariant (subst IsGood text.is good)

pub returns : goal.returns
returns c =
    subst (All IsGood) (take_all c.loop-script.script c.args.texts.now (omega arith))
    c.loop-script.invariant
