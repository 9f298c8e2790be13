use Rattle.std.proofs.Common.{refl, arith}
use Rattle.std.proofs.lemmas.Option.{slice_get_read}
use Rattle.script_checks.proofs.Marking.{closed_at_end, closed_further, without_true}
use Rattle.script_checks.proofs.reaching.next_to_mark.Goals as goal
use Rattle.script_checks.proofs.reaching.next_to_mark.Goals.{then-marks-place+in_default}
use Rattle.script_checks.proofs.reaching.next_to_mark.Goals.{else-marks-place}

pub loop-place-preserved : goal.loop-place-preserved
loop-place-preserved c =
    closed_further c.args.lines.now c.args.marks.now c.loop-place.place c.index-lines-place.result
    (slice_get_read c.args.lines.now _ _ _ refl c.loop-place-test.true c.index-lines-place.is)
    (elim c.if-marks-place.branch [
      | then-marks-place+in_default w ↦ λ marked. w.in_default.ensures
      | else-marks-place w ↦ λ marked. absurd
          (without_true c.args.marks.now c.loop-place.place w.if-marks-place.false marked)
    ])
    c.loop-place.invariant

pub returns : goal.returns
returns c = closed_at_end c.args.lines.now c.args.marks.now c.loop-place.place
    (omega arith) c.loop-place.invariant
