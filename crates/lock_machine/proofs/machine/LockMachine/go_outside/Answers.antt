use Rattle.lock_machine.specs.Threads.{joined}
use Rattle.std.proofs.lemmas.List.{length-set}
use Rattle.std.proofs.Common.{◌≡◌, subst, refl, ℕ, ◌<◌, length, rules, set, sym}
use Rattle.lock_machine.proofs.Inside.{inside_of, item_in, whole_by, clock_inside, count_kept}
use Rattle.lock_machine.specs.Whole.{Whole}
use Rattle.lock_machine.specs.Refusals.{Rests}
use Rattle.lock_machine.specs.Shows.{AdvancesQuietly}
use Rattle.lock_machine.specs.declared.thread.Phase.TheVariants as phase
use Rattle.lock_machine.proofs.EventShows.{begin_done, item_agrees, item_of, phase_at}
use Rattle.lock_machine.proofs.Resting.{begin_rests}
use Rattle.lock_machine.proofs.Bearing.{born_still}
use Rattle.lock_machine.proofs.RowRoom.{room_less}
use Rattle.lock_machine.proofs.Bearing.{few_kept}
use Rattle.lock_machine.proofs.Wanting.{waits_still}
use Rattle.lock_machine.proofs.machine.LockMachine.go_outside.Goals as goal

pub invariant_of-self-inside : goal.invariant_of-self-inside
invariant_of-self-inside c =
    let m = c.self.inside in
    let v : Whole = whole_by m.settings m.threads.items m.clocks m.shared.lock m.objects.items m.shared.store.value
    m.shared.rows.items in
    let view : v ≡ c.args.self.now = c.self.view_is in
    let inside = inside_of m.threads.items m.clocks v c.args.self.now c.args.i refl view c.requires.inside in
    let item = item_of m.threads.items m.clocks c.args.i c.index_mut.result.now c.begin_outside.new.thread
    c.begin_outside.new.clocks m.agree inside c.index_mut.ensures.value c.begin_outside.ensures.others in (
      item_agrees m.threads.items m.clocks c.args.i c.index_mut.result.now c.begin_outside.new.thread
          c.begin_outside.new.clocks m.agree item,
      (
        few_kept m.threads.items c.args.i c.begin_outside.new.thread m.few,
        (
          born_still m.clocks c.begin_outside.new.clocks c.args.i c.index_mut.result.now c.begin_outside.new.thread
              m.shared.store.value (clock_inside m.threads.items m.clocks c.args.i m.agree inside)
              c.begin_outside.ensures.others m.births,
          (
            room_less m.threads.items c.args.i c.index_mut.result.now c.begin_outside.new.thread m.shared.rows inside
                c.index_mut.ensures.value c.begin_outside.ensures.due m.room,
            (
              waits_still m.threads.items c.args.i c.index_mut.result.now c.begin_outside.new.thread m.shared.lock
                  m.shared.lock m.shared.rows.items m.shared.rows.items m.shared.store.value m.shared.wanted inside
                  c.index_mut.ensures.value (c.begin_outside.ensures.brings m.shared.rows.items) (λ n. refl)
                  (λ k held. held) m.wanted,
              tt,
            ),
          ),
        ),
      ),
    )

pub returns-clause-event : goal.returns-clause-event
returns-clause-event c =
    let m = c.self.inside in
    let v : Whole = whole_by m.settings m.threads.items m.clocks m.shared.lock m.objects.items m.shared.store.value
    m.shared.rows.items in
    let view : v ≡ c.args.self.now = c.self.view_is in
    let inside = inside_of m.threads.items m.clocks v c.args.self.now c.args.i refl view c.requires.inside in
    let x = c.index_mut.result.now in
    let item = item_of m.threads.items m.clocks c.args.i x c.begin_outside.new.thread c.begin_outside.new.clocks m.agree
    inside c.index_mut.ensures.value c.begin_outside.ensures.others in
    subst (λ (w : Whole). AdvancesQuietly c.begin_outside.result c.args.i w
    (record v {
      threads = joined (set m.threads.items c.args.i c.begin_outside.new.thread)
          c.begin_outside.new.clocks;
    })) view
    (begin_done v m.threads.items m.clocks c.begin_outside.new.clocks c.args.i c.args.outing x
    c.begin_outside.new.thread c.begin_outside.result item
    (phase_at m.threads.items c.args.i x (phase.ToOutside c.args.outing) inside c.index_mut.ensures.value
    (item_in (λ p. p ≡ phase.ToOutside c.args.outing) m.threads.items m.clocks v c.args.self.now c.args.i refl view
    inside c.requires.granted)) c.begin_outside.ensures.event)

pub index_mut-requires : goal.index_mut-requires
index_mut-requires c =
    let m = c.self.inside in
    let v : Whole = whole_by m.settings m.threads.items m.clocks m.shared.lock m.objects.items m.shared.store.value
    m.shared.rows.items in
    let view : v ≡ c.args.self.now = c.self.view_is in
    let inside = inside_of m.threads.items m.clocks v c.args.self.now c.args.i refl view c.requires.inside in
    let size : m.threads.len ≡ length m.threads.items = search rules in
    subst (λ (n : ℕ). c.args.i < n) (sym size) inside

pub begin_outside-requires-clause-inside : goal.begin_outside-requires-clause-inside
begin_outside-requires-clause-inside c =
    let m = c.self.inside in
    let v : Whole = whole_by m.settings m.threads.items m.clocks m.shared.lock m.objects.items m.shared.store.value
    m.shared.rows.items in
    let view : v ≡ c.args.self.now = c.self.view_is in
    let inside = inside_of m.threads.items m.clocks v c.args.self.now c.args.i refl view c.requires.inside in
    clock_inside m.threads.items m.clocks c.args.i m.agree inside

pub begin_outside-requires-clause-granted : goal.begin_outside-requires-clause-granted
begin_outside-requires-clause-granted c =
    let m = c.self.inside in
    let v : Whole = whole_by m.settings m.threads.items m.clocks m.shared.lock m.objects.items m.shared.store.value
    m.shared.rows.items in
    let view : v ≡ c.args.self.now = c.self.view_is in
    let inside = inside_of m.threads.items m.clocks v c.args.self.now c.args.i refl view c.requires.inside in
    phase_at m.threads.items c.args.i c.index_mut.result.now (phase.ToOutside c.args.outing) inside
    c.index_mut.ensures.value (item_in (λ p. p ≡ phase.ToOutside c.args.outing) m.threads.items m.clocks v
    c.args.self.now c.args.i refl view inside c.requires.granted)

pub returns-clause-count : goal.returns-clause-count
returns-clause-count c =
    let m = c.self.inside in
    let v : Whole = whole_by m.settings m.threads.items m.clocks m.shared.lock m.objects.items m.shared.store.value
    m.shared.rows.items in
    let view : v ≡ c.args.self.now = c.self.view_is in
    let inside = inside_of m.threads.items m.clocks v c.args.self.now c.args.i refl view c.requires.inside in
    count_kept m.threads.items (set m.threads.items c.args.i c.begin_outside.new.thread) m.clocks
    c.begin_outside.new.clocks v c.args.self.now refl view
    (length-set m.threads.items c.args.i c.begin_outside.new.thread)

pub returns-clause-rests : goal.returns-clause-rests
returns-clause-rests c =
    let m = c.self.inside in
    let v : Whole = whole_by m.settings m.threads.items m.clocks m.shared.lock m.objects.items m.shared.store.value
    m.shared.rows.items in
    let view : v ≡ c.args.self.now = c.self.view_is in
    let inside = inside_of m.threads.items m.clocks v c.args.self.now c.args.i refl view c.requires.inside in
    let x = c.index_mut.result.now in
    let item = item_of m.threads.items m.clocks c.args.i x c.begin_outside.new.thread c.begin_outside.new.clocks m.agree
    inside c.index_mut.ensures.value c.begin_outside.ensures.others in
    subst (λ (w : Whole). Rests c.begin_outside.result w
    (record v {
      threads = joined (set m.threads.items c.args.i c.begin_outside.new.thread)
          c.begin_outside.new.clocks;
    })) view
    (begin_rests v m.threads.items m.clocks c.begin_outside.new.clocks c.args.i c.args.outing x
    c.begin_outside.new.thread c.begin_outside.result item c.begin_outside.ensures.event)
