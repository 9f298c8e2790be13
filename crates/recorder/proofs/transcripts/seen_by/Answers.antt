use Rattle.std.proofs.Common.{◌≡◌, ◌∙◌, arith, subst}
use Rattle.std.proofs.lemmas.List.{length-append}
use Rattle.recorder.specs.Recorded.{AreBeginnings, transcripts_of}
use Rattle.recorder.proofs.Seen.{begin_all, begin_more, whole_more}
use Rattle.recorder.proofs.transcripts.seen_by.Goals as goal

pub loop-thread-preserved : goal.loop-thread-preserved
loop-thread-preserved c =
    let l = c.loop-thread in
    let items = c.push_reserved.ensures.items in
    record {
      begin = rw items (begin_more l.thread c.args.rows.now l.transcripts.items c.fill-filled.new.transcript
          c.fill-filled.result l.invariant.begin c.fill-filled.ensures.ok c.fill-filled.ensures.err);
      whole = rw (items, c.still-whole.ensures)
          (whole_more l.thread c.args.rows.now l.transcripts.items c.fill-filled.new.transcript l.whole
          c.fill-filled.result l.invariant.begin l.invariant.whole c.fill-filled.ensures.ok c.fill-filled.ensures.err);
      count = rw items (length-append l.transcripts.items _ ∙ omega (arith, l.invariant.count));
      room = rw c.push_reserved.ensures.capacity l.invariant.room;
    }

pub returns-clause-begin : goal.returns-clause-begin
returns-clause-begin c =
    let l = c.loop-thread in
    let all : l.thread ≡ c.args.threads = omega (arith, c.loop-thread-test.false, l.auto.thread-end) in
    rw c.from_vec.ensures (subst (λ n. AreBeginnings l.transcripts.items (transcripts_of n c.args.rows.now)) all
    (begin_all l.transcripts.items (transcripts_of l.thread c.args.rows.now) l.invariant.begin))
