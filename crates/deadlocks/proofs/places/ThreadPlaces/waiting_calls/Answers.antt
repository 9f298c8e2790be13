use Rattle.std.proofs.Common.{◌∙◌, sym, ap, append_assoc, ◌++◌}
use Rattle.deadlocks.proofs.Moments.{call_of, no_call}
use Rattle.deadlocks.proofs.places.ThreadPlaces.waiting_calls.Goals as goal
use Rattle.deadlocks.proofs.places.ThreadPlaces.waiting_calls.Goals.{then-is_live+in_ok-push, else-is_live}

pub loop-thread-preserved : goal.loop-thread-preserved
loop-thread-preserved c = λ past later are.
    let place = c.index.ensures ∙ are.each c.loop-thread.thread _ c.loop-thread-test.true in
    elim c.if-is_live.branch [
      | then-is_live+in_ok-push w ↦
          let lives = sym c.is_live.ensures ∙ w.if-is_live.true in
          let found = call_of c.loop-thread.thread c.args.ended.now past later _ _ place
          c.loop-thread-test.true lives in
          rw (w.calls-is, w.in_ok-push.ensures.items)
          (append_assoc c.loop-thread.calls.items _ _ ∙ ap (λ rest. c.loop-thread.calls.items ++ rest) (sym found)
          ∙ c.loop-thread.invariant past later are)
      | else-is_live w ↦
          let dies = sym c.is_live.ensures ∙ w.if-is_live.false in
          let found = no_call c.loop-thread.thread c.args.ended.now past later _ _ place c.loop-thread-test.true dies in
          rw w.calls-is
          (ap (λ rest. c.loop-thread.calls.items ++ rest) (sym found) ∙ c.loop-thread.invariant past later are)
    ]
