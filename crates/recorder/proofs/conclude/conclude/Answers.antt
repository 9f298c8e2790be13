use Rattle.recorder.proofs.Ending.{agree_told, are_told, run_told, told_complete}
use Rattle.recorder.proofs.conclude.conclude.Goals as goal

pub returns-clause-run : goal.returns-clause-run
returns-clause-run g c =
    rw (c.new.ensures, c.judged-stop.ensures)
    (run_told c.args.header c.finish-finished.result.header c.stop_unless.new.machine _ _ _ _ _
    c.finish-finished.result.stop c.agrees-agrees.result _ c.is_complete-complete.result
    c.finish-finished.ensures.shows c.finish-finished.ensures.header
    (rw c.as_slice-2.ensures.value at c.agrees-agrees.ensures)
    (rw (c.finish-finished.ensures.shows.rows, c.stop_unless.ensures.rest)
    (rw c.history.ensures.rows at c.seen_by-transcripts.ensures.whole))
    c.is_complete-complete.ensures.whole
    c.stop_unless.ensures.stopped
    (λ yes. rw c.stop_unless.ensures.rest (c.is_complete-complete.ensures.threads yes)))

pub returns-clause-agrees : goal.returns-clause-agrees
returns-clause-agrees g c =
    rw (c.new.ensures, c.judged-stop.ensures)
    (agree_told _ c.finish-finished.result.stop c.agrees-agrees.result _
    (λ yes. rw c.as_slice-2.ensures.value at (c.agrees-agrees.ensures.0 yes).1))

pub returns-clause-transcripts : goal.returns-clause-transcripts
returns-clause-transcripts g c =
    rw (c.new.ensures, c.judged-stop.ensures, c.finish-finished.ensures.shows.rows, c.stop_unless.ensures.rest)
    (are_told c.args.header.threads c.args.machine.whole.rows _ c.finish-finished.result.stop c.agrees-agrees.result _
    (rw c.history.ensures.rows at c.seen_by-transcripts.ensures.begin)
    (rw c.history.ensures.rows at c.seen_by-transcripts.ensures.whole))

pub returns-clause-ended : goal.returns-clause-ended
returns-clause-ended g c none =
    let complete = told_complete c.stop_unless.new.machine _ _ _ c.finish-finished.result.stop c.agrees-agrees.result _
    c.is_complete-complete.result c.finish-finished.ensures.shows c.stop_unless.ensures.stopped
    (rw c.judged-stop.ensures at none) in
    rw c.as_slice.ensures.value at (c.is_complete-complete.ensures.own complete)

pub returns-clause-answered : goal.returns-clause-answered
returns-clause-answered g c none =
    let complete = told_complete c.stop_unless.new.machine _ _ _ c.finish-finished.result.stop c.agrees-agrees.result _
    c.is_complete-complete.result c.finish-finished.ensures.shows c.stop_unless.ensures.stopped
    (rw c.judged-stop.ensures at none) in
    rw (c.new.ensures, c.finish-finished.ensures.shows.rows, c.stop_unless.ensures.rest)
    (c.is_complete-complete.ensures.rows complete)
