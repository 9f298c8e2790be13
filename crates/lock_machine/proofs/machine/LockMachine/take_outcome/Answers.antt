use Rattle.lock_machine.specs.Threads.{joined}
use Rattle.std.proofs.lemmas.List.{length-set}
use Rattle.std.proofs.Common.{◌≡◌, subst, refl, ℕ, ◌<◌, length, rules, set, sym}
use Rattle.lock_machine.proofs.Inside.{inside_of, item_in, whole_by, count_kept}
use Rattle.lock_machine.specs.Whole.{Whole}
use Rattle.lock_machine.specs.Refusals.{Rests, outlook}
use Rattle.lock_machine.specs.Shows.{RecordsGiven, has_moved}
use Rattle.lock_machine.specs.declared.thread.Phase.TheVariants as phase
use Rattle.lock_machine.proofs.EventShows.{item_agrees, item_recorded, phase_at, record_done}
use Rattle.lock_machine.proofs.Resting.{outlook_is, record_rests}
use Rattle.lock_machine.proofs.RowRoom.{room_kept}
use Rattle.lock_machine.proofs.Bearing.{few_kept}
use Rattle.lock_machine.proofs.Wanting.{waits_still}
use Rattle.lock_machine.proofs.machine.LockMachine.take_outcome.Goals as goal

pub invariant_of-self-inside : goal.invariant_of-self-inside
invariant_of-self-inside c =
    let m = c.self.inside in
    let v : Whole = whole_by m.settings m.threads.items m.clocks m.shared.lock m.objects.items m.shared.store.value
    m.shared.rows.items in
    let view : v ≡ c.args.self.now = c.self.view_is in
    let inside = inside_of m.threads.items m.clocks v c.args.self.now c.args.i refl view c.requires.inside in
    let outside = phase_at m.threads.items c.args.i c.index_mut.result.now (phase.Outside c.args.outing) inside
    c.index_mut.ensures.value (item_in (λ p. p ≡ phase.Outside c.args.outing) m.threads.items m.clocks v
    c.args.self.now c.args.i refl view inside c.requires.outside) in
    let item = item_recorded m.threads.items m.clocks c.args.i c.args.outing c.index_mut.result.now c.record.new.thread
    m.agree inside c.index_mut.ensures.value outside c.record.ensures.live in (
      item_agrees m.threads.items m.clocks c.args.i c.index_mut.result.now c.record.new.thread m.clocks m.agree item,
      (
        few_kept m.threads.items c.args.i c.record.new.thread m.few,
        (
          m.births,
          (
            room_kept m.threads.items c.args.i c.index_mut.result.now c.record.new.thread m.shared.rows
                c.record.new.rows inside c.index_mut.ensures.value c.record.ensures.room m.room,
            (
              waits_still m.threads.items c.args.i c.index_mut.result.now c.record.new.thread m.shared.lock
                  m.shared.lock
                  m.shared.rows.items c.record.new.rows.items m.shared.store.value m.shared.wanted inside
                  c.index_mut.ensures.value c.record.ensures.brings c.record.ensures.calls (λ k held. held) m.wanted,
              tt,
            ),
          ),
        ),
      ),
    )

pub returns-clause-event : goal.returns-clause-event
returns-clause-event c =
    let m = c.self.inside in
    let v : Whole = whole_by m.settings m.threads.items m.clocks m.shared.lock m.objects.items m.shared.store.value
    m.shared.rows.items in
    let view : v ≡ c.args.self.now = c.self.view_is in
    let inside = inside_of m.threads.items m.clocks v c.args.self.now c.args.i refl view c.requires.inside in
    let outside = phase_at m.threads.items c.args.i c.index_mut.result.now (phase.Outside c.args.outing) inside
    c.index_mut.ensures.value (item_in (λ p. p ≡ phase.Outside c.args.outing) m.threads.items m.clocks v
    c.args.self.now c.args.i refl view inside c.requires.outside) in
    let item = item_recorded m.threads.items m.clocks c.args.i c.args.outing c.index_mut.result.now c.record.new.thread
    m.agree inside c.index_mut.ensures.value outside c.record.ensures.live in
    subst (λ (w : Whole). RecordsGiven c.record.result c.args.i c.args.given w
    (record v {
      threads = joined (set m.threads.items c.args.i c.record.new.thread) m.clocks;
      rows = c.record.new.rows.items;
    })) view
    (record_done c.requests_asked.ensures.little c.arising_states.ensures.rows c.arising_states.ensures.plans v
    m.threads.items m.clocks c.args.i c.args.outing c.args.given c.index_mut.result.now c.record.new.thread
    c.record.new.rows.items c.record.result item outside c.record.ensures.event)

pub index_mut-requires : goal.index_mut-requires
index_mut-requires c =
    let m = c.self.inside in
    let v : Whole = whole_by m.settings m.threads.items m.clocks m.shared.lock m.objects.items m.shared.store.value
    m.shared.rows.items in
    let view : v ≡ c.args.self.now = c.self.view_is in
    let inside = inside_of m.threads.items m.clocks v c.args.self.now c.args.i refl view c.requires.inside in
    let size : m.threads.len ≡ length m.threads.items = search rules in
    subst (λ (n : ℕ). c.args.i < n) (sym size) inside

pub returns-clause-count : goal.returns-clause-count
returns-clause-count c =
    let m = c.self.inside in
    let v : Whole = whole_by m.settings m.threads.items m.clocks m.shared.lock m.objects.items m.shared.store.value
    m.shared.rows.items in
    let view : v ≡ c.args.self.now = c.self.view_is in
    let inside = inside_of m.threads.items m.clocks v c.args.self.now c.args.i refl view c.requires.inside in
    count_kept m.threads.items (set m.threads.items c.args.i c.record.new.thread) m.clocks m.clocks v c.args.self.now
    refl view (length-set m.threads.items c.args.i c.record.new.thread)

pub returns-clause-rests : goal.returns-clause-rests
returns-clause-rests c =
    let m = c.self.inside in
    let v : Whole = whole_by m.settings m.threads.items m.clocks m.shared.lock m.objects.items m.shared.store.value
    m.shared.rows.items in
    let view : v ≡ c.args.self.now = c.self.view_is in
    let inside = inside_of m.threads.items m.clocks v c.args.self.now c.args.i refl view c.requires.inside in
    let x = c.index_mut.result.now in
    let outside = phase_at m.threads.items c.args.i x (phase.Outside c.args.outing) inside c.index_mut.ensures.value
    (item_in (λ p. p ≡ phase.Outside c.args.outing) m.threads.items m.clocks v c.args.self.now c.args.i refl
    view inside c.requires.outside) in
    let item = item_recorded m.threads.items m.clocks c.args.i c.args.outing x c.record.new.thread m.agree inside
    c.index_mut.ensures.value outside c.record.ensures.live in
    subst (λ (w : Whole). Rests (has_moved c.record.result) w
    (record v {
      threads = joined (set m.threads.items c.args.i c.record.new.thread) m.clocks;
      rows = c.record.new.rows.items;
    })) view
    (record_rests v m.threads.items m.clocks c.args.i c.args.outing c.args.given x c.record.new.thread
    c.record.new.rows.items c.record.result item c.record.ensures.event)

pub returns-clause-outlook : goal.returns-clause-outlook
returns-clause-outlook c =
    let m = c.self.inside in
    let v : Whole = whole_by m.settings m.threads.items m.clocks m.shared.lock m.objects.items m.shared.store.value
    m.shared.rows.items in
    let view : v ≡ c.args.self.now = c.self.view_is in
    let inside = inside_of m.threads.items m.clocks v c.args.self.now c.args.i refl view c.requires.inside in
    let x = c.index_mut.result.now in
    let outside = phase_at m.threads.items c.args.i x (phase.Outside c.args.outing) inside c.index_mut.ensures.value
    (item_in (λ p. p ≡ phase.Outside c.args.outing) m.threads.items m.clocks v c.args.self.now c.args.i refl
    view inside c.requires.outside) in
    let item = item_recorded m.threads.items m.clocks c.args.i c.args.outing x c.record.new.thread m.agree inside
    c.index_mut.ensures.value outside c.record.ensures.live in
    subst (λ (w : Whole). c.record.result ≡ outlook w c.args.i c.args.given) view
    (outlook_is v m.threads.items m.clocks c.args.i c.args.outing c.args.given x c.record.new.thread
    c.record.new.rows.items c.record.result item outside c.record.ensures.event)

pub record-requires : goal.record-requires
record-requires c =
    let m = c.self.inside in
    let v : Whole = whole_by m.settings m.threads.items m.clocks m.shared.lock m.objects.items m.shared.store.value
    m.shared.rows.items in
    let view : v ≡ c.args.self.now = c.self.view_is in
    let inside = inside_of m.threads.items m.clocks v c.args.self.now c.args.i refl view c.requires.inside in
    record {
      outside = phase_at m.threads.items c.args.i c.index_mut.result.now (phase.Outside c.args.outing) inside
          c.index_mut.ensures.value (item_in (λ p. p ≡ phase.Outside c.args.outing) m.threads.items m.clocks v
          c.args.self.now c.args.i refl view inside c.requires.outside);
    }
