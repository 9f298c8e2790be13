use Rattle.std.proofs.Common.{◌≡◌, ◌+◌, ◌<◌, ◌∙◌, ℕ, List, Option, length, sym, subst, rules}
use Rattle.std.proofs.lemmas.List.{get_or_default}
use Rattle.logical_clocks.specs.ThreadClocks.{live_clocks, no_thread, thread_at}
use Rattle.logical_clocks.specs.TurnOrder.{turn_holder}
use Rattle.logical_clocks.specs.declared.clocks.ThreadClock.{ThreadClock}
use Rattle.logical_clocks.proofs.LiveLemmas.{IsFoundBelow, holder_found, next_has_ended, next_is_earlier, next_is_later}
use Rattle.logical_clocks.proofs.LiveLemmas.{none_found}
use Rattle.logical_clocks.proofs.clocks.Clocks.turn_holder.Goals as goal
use Rattle.logical_clocks.proofs.clocks.Clocks.turn_holder.Goals.{then-thread+then-thread-least, else-thread}
use Rattle.logical_clocks.proofs.clocks.Clocks.turn_holder.Goals.{else-thread-via-then-thread+else-thread-least}
use Rattle.logical_clocks.proofs.clocks.Clocks.turn_holder.Goals.{else-thread-via-else-thread}

pub loop-i-init : goal.loop-i-init
loop-i-init c = none_found c.self.inside.threads.items

pub loop-i-preserved : goal.loop-i-preserved
loop-i-preserved c =
    let clocks = c.self.inside.threads.items in
    let n = c.loop-i.i in
    let t : ThreadClock = c.index-thread.result.now in
    let inside : n < length clocks = search rules in
    let is : t ≡ thread_at clocks n = c.index-thread.ensures ∙ get_or_default clocks n t no_thread inside in
    let P : Option ℕ → ℕ → Type 0 = IsFoundBelow clocks (n + 1) in
    elim c.if-thread.branch [
      | then-thread+then-thread-least w ↦
          kept P (sym w.holder-is) (sym w.least-is)
          (next_is_earlier clocks n c.loop-i.holder c.loop-i.least t c.loop-i.invariant is w.if-thread.true
          w.if-thread-least.true)
      | else-thread w ↦
          elim w.else-thread.branch [
            | else-thread-via-then-thread+else-thread-least v ↦
                kept P (sym w.holder-is) (sym w.least-is)
                (next_is_later clocks n c.loop-i.holder c.loop-i.least t c.self.invariant inside c.loop-i.invariant
                is v.if-thread-least.false)
            | else-thread-via-else-thread v ↦
                kept P (sym w.holder-is) (sym w.least-is)
                (next_has_ended clocks n c.loop-i.holder c.loop-i.least t c.loop-i.invariant is v.if-thread.false)
          ]
    ]
  where
    kept : (P : Option ℕ → ℕ → Type 0) {o p : Option ℕ} {a b : ℕ} → o ≡ p → a ≡ b → P o a → P p b
    kept P {o} {p} {a} {b} e f h = subst (λ (x : Option ℕ). P x b) e (subst (λ (n : ℕ). P o n) f h)

pub returns : goal.returns
returns c =
    let clocks = c.self.inside.threads.items in
    let all : c.loop-i.i ≡ length clocks = search rules in
    let found : IsFoundBelow clocks (length clocks) c.loop-i.holder c.loop-i.least =
    subst (λ (n : ℕ). IsFoundBelow clocks n c.loop-i.holder c.loop-i.least) all c.loop-i.invariant in
    let view : clocks ≡ c.args.self.now = c.self.view_is in
    sym (subst (λ (cs : List ThreadClock). turn_holder (live_clocks cs) ≡ c.loop-i.holder) view
    (holder_found clocks c.loop-i.holder c.loop-i.least found))
