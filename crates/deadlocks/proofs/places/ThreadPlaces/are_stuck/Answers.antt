use Rattle.std.proofs.Common.{◌∙◌, sym}
use Rattle.deadlocks.proofs.Moments.{all_stuck, found_dead, found_live}
use Rattle.deadlocks.proofs.places.ThreadPlaces.are_stuck.Goals as goal
use Rattle.deadlocks.proofs.places.ThreadPlaces.are_stuck.Goals.{then-is_live+else-not-place, else-is_live}

pub loop-thread-init : goal.loop-thread-init
loop-thread-init c = λ past later are. all_stuck 0 c.args.ended.now past later

pub returns-then-not-place : goal.returns-then-not-place
returns-then-not-place c = λ past later are.
    let place = c.index.ensures ∙ are.each c.loop-thread.thread _ c.loop-thread-test.true in
    let lives = sym c.is_live.ensures ∙ c.if-is_live.true in
    let found = found_live c.loop-thread.live c.loop-thread.thread c.args.ended.now past later _ _ place
    c.loop-thread-test.true lives in
    rw c.if-not-place.true at (sym found ∙ c.loop-thread.invariant past later are)

pub loop-thread-preserved : goal.loop-thread-preserved
loop-thread-preserved c = λ past later are.
    let place = c.index.ensures ∙ are.each c.loop-thread.thread _ c.loop-thread-test.true in
    elim c.if-is_live.branch [
      | then-is_live+else-not-place w ↦
          let lives = sym c.is_live.ensures ∙ w.if-is_live.true in
          let found = found_live c.loop-thread.live c.loop-thread.thread c.args.ended.now past later _ _ place
          c.loop-thread-test.true lives in
          rw w.live-is (rw w.if-not-place.false at (sym found ∙ c.loop-thread.invariant past later are))
      | else-is_live w ↦
          let dies = sym c.is_live.ensures ∙ w.if-is_live.false in
          let found = found_dead c.loop-thread.live c.loop-thread.thread c.args.ended.now past later _ _ place
          c.loop-thread-test.true dies in
          rw w.live-is (sym found ∙ c.loop-thread.invariant past later are)
    ]
