use Rattle.std.proofs.Common.{inl, inr}
use Rattle.std.specs.List.{zip}
use Rattle.minimiser.proofs.Threads.{all_seen, one_further, thread_at}
use Rattle.minimiser.proofs.finding.first_target.Goals as goal

pub returns-in_default : goal.returns-in_default
returns-in_default c =
    all_seen c.args.texts.now c.args.transcripts.now c.loop-thread.thread
    (inr c.in_default.ensures.lookup.3) c.loop-thread.invariant

pub returns-in-Some-unmet : goal.returns-in-Some-unmet
returns-in-Some-unmet c =
    let text = c.index-texts-thread in
    let rows = c.in-Some.transcript.now in
    let lookup = c.in-Some.ensures.lookup in
    record {
      number = c.loop-thread.thread;
      before = c.loop-thread.invariant;
      thread = (text.result, rows);
      at = thread_at c.args.texts.now c.args.transcripts.now c.loop-thread.thread text.result rows
          c.loop-thread-test.true text.is lookup.3.0 lookup.1;
      unmet = rw (c.in-Some-unmet.is, c.as_slice.ensures, c.rows.ensures) at c.in_ok-unmet.ensures;
    }

pub loop-thread-preserved : goal.loop-thread-preserved
loop-thread-preserved c =
    let text = c.index-texts-thread in
    let rows = c.in-Some.transcript.now in
    let lookup = c.in-Some.ensures.lookup in
    let threads = zip c.args.texts.now c.args.transcripts.now in
    let at = thread_at c.args.texts.now c.args.transcripts.now c.loop-thread.thread text.result rows
    c.loop-thread-test.true text.is lookup.3.0 lookup.1 in
    let here =
    rw (c.in_default-unmet.is, c.as_slice.ensures, c.rows.ensures) at c.in_ok-unmet.ensures in
    one_further threads c.loop-thread.thread (text.result, rows) at c.loop-thread.invariant here

pub returns : goal.returns
returns c =
    all_seen c.args.texts.now c.args.transcripts.now c.loop-thread.thread
    (inl c.loop-thread-test.false) c.loop-thread.invariant
