use Rattle.std.proofs.Common.{◌≡◌, ℕ, ◌*◌, ◌≤◌, None, List, [], length, map, replicate, sym, ap, ap₂, ◌∙◌, subst, rules}
use Rattle.std.proofs.lemmas.List.{length-replicate}
use Rattle.posix_terms.specs.declared.limits.TheConstants.Limits as limit
use Rattle.det_mutex.specs.Attempt.{new_lock}
use Rattle.logical_clocks.specs.ThreadClocks.{first_clock}
use Rattle.logical_clocks.specs.declared.clocks.ThreadClock.{ThreadClock}
use Rattle.lock_machine.specs.Lives.{lives}
use Rattle.lock_machine.specs.Starting.{first_item}
use Rattle.lock_machine.specs.Threads.{joined}
use Rattle.lock_machine.proofs.Joining.{agree_first, joined_first}
use Rattle.call_turns.specs.Store.{Stored, first_stored}
use Rattle.lock_machine.specs.Births.{BornWithin, time_of}
use Rattle.lock_machine.proofs.Bearing.{born_first}
use Rattle.std.specs.Vec.{vec_len}
use Rattle.lock_machine.proofs.RowRoom.{room_first}
use Rattle.det_mutex.specs.declared.lock.DetLock.{DetLock}
use Rattle.lock_machine.proofs.Wanting.{waits_first}
use Rattle.lock_machine.proofs.machine.LockMachine.new_from.Goals as goal

pub invariant_of-result-2 : goal.invariant_of-result-2
invariant_of-result-2 c =
    let count = c.args.threads in
    let threads : c.in_ok-first_threads.field-0.items ≡ replicate count first_item = search rules in
    let clocks : c.clocks.inside.threads.items ≡ replicate count first_clock = search rules in
    let table : c.in_ok-take.field-0.value ≡ first_stored = search rules in
    let none : vec_len c.new-3.result ≡ 0 = search rules in (
      ap (map (λ (t : ThreadClock). t.live)) clocks ∙ agree_first count ∙ sym (ap lives threads),
      (
        subst (λ (n : ℕ). n ≤ limit.THREADS) (sym (ap length threads ∙ length-replicate count first_item))
            c.requires.within_limit,
        (
          subst (λ (cs : List ThreadClock). BornWithin (2 * time_of cs) c.in_ok-take.field-0.value) (sym clocks)
              (subst (λ (t : Stored). BornWithin (2 * time_of (replicate count first_clock)) t) (sym table)
              (born_first count)),
          (
            room_first c.in_ok-first_threads.field-0.items count c.new-3.result threads none,
            (
              waits_first c.in_ok-first_threads.field-0.items c.new-2.result c.new-3.result.items
                  c.in_ok-take.field-0.value None (ap (λ (l : DetLock). l.holder) c.new-2.ensures),
              tt,
            ),
          ),
        ),
      ),
    )

pub returns : goal.returns
returns c =
    let count = c.args.threads in
    let threads : c.in_ok-first_threads.field-0.items ≡ replicate count first_item = search rules in
    let clocks : c.clocks.inside.threads.items ≡ replicate count first_clock = search rules in
    let objects : c.in_ok-vec.field-0.items ≡ replicate 48 new_lock = search rules in
    let table : c.in_ok-take.field-0.value ≡ first_stored = search rules in
    let rows : c.new-3.result.items ≡ [] = search rules in
    λ i. record {
      settings = c.args.settings;
      threads = (ap₂ joined threads clocks ∙ joined_first count) i;
      lock = c.new-2.ensures i;
      objects = objects i;
      table = table i;
      rows = rows i;
    }
