use Rattle.std.proofs.Common.{◌≡◌, ◌+◌, ◌<◌, ◌∙◌, List, length, sym, ap, subst, arith}
use Rattle.std.proofs.lemmas.List.{get_or_default}
use Rattle.logical_clocks.specs.declared.clocks.ThreadClock.{ThreadClock}
use Rattle.lock_machine.specs.Refusals.{wants_lock}
use Rattle.lock_machine.specs.Views.{no_item}
use Rattle.lock_machine.specs.declared.thread.Thread.{Thread}
use Rattle.lock_machine.specs.Skipping.{phase_of}
use Rattle.lock_machine.proofs.Passing.{ArePassedBelow, all_passed, none_more, none_passed, one_more}
use Rattle.lock_machine.proofs.skipping.pass.Goals as goal
use Rattle.lock_machine.proofs.skipping.pass.Goals.{then-wants_lock, else-wants_lock}

pub loop-i-init : goal.loop-i-init
loop-i-init c = none_passed c.args.turn c.args.threads.now c.args.clocks.now

pub loop-i-preserved : goal.loop-i-preserved
loop-i-preserved c =
    let turn = c.args.turn in
    let ts = c.args.threads.now in
    let old = c.args.clocks.now in
    let now = c.loop-i.clocks in
    let n = c.loop-i.i in
    let P : List ThreadClock → Type 0 = ArePassedBelow turn ts (n + 1) old in
    let wants : wants_lock (phase_of ts n) ≡ c.wants_lock.result =
    ap (λ (t : Thread). wants_lock t.phase)
    (sym (get_or_default ts n c.index-threads-i.result no_item c.loop-i-test.true))
    ∙ sym c.wants_lock.ensures in
    let inside : n < length old = few c in
    elim c.if-wants_lock.branch [
      | then-wants_lock w ↦
          subst P (sym w.clocks-is) (one_more turn ts n w.first_from.result old now w.raise.new.self inside
          (wants ∙ w.if-wants_lock.true) w.first_from.ensures w.raise.ensures c.loop-i.invariant)
      | else-wants_lock w ↦ subst P (sym w.clocks-is)
          (none_more turn ts n old now (wants ∙ w.if-wants_lock.false) c.loop-i.invariant)
    ]
  where
    few : (c : goal.Joined-wants_lock) → c.loop-i.i < length c.args.clocks.now
    few c = let a = c.requires.inside in let b = c.loop-i-test.true in omega arith

pub returns : goal.returns
returns c =
    let all : c.loop-i.i ≡ length c.args.threads.now = omega arith in
    all_passed c.args.turn c.args.threads.now c.loop-i.i c.args.clocks.now c.loop-i.clocks all c.loop-i.invariant
