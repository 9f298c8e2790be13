use Rattle.lock_machine.specs.Threads.{joined}
use Rattle.std.proofs.lemmas.List.{length-set}
use Rattle.lock_machine.proofs.Inside.{inside_of, item_in, whole_by, clock_inside, count_kept}
use Rattle.lock_machine.specs.Whole.{Whole}
use Rattle.lock_machine.specs.Refusals.{Rests}
use Rattle.lock_machine.specs.Shows.{Tells}
use Rattle.lock_machine.specs.declared.thread.Phase.TheVariants as phase
use Rattle.lock_machine.proofs.EventShows.{conclude_done, conclude_lost, conclude_none, item_agrees, item_of, phase_at}
use Rattle.std.proofs.Common.{◌≡◌, ℕ, ◌≤◌, length, get_or, sym, ◌∙◌, subst, rules, None, is_some, refl, ◌<◌, set}
use Rattle.lock_machine.proofs.Parting.{same_some}
use Rattle.det_mutex.specs.Attempt.{new_lock}
use Rattle.lock_machine.proofs.Resting.{conclude_rests}
use Rattle.lock_machine.proofs.Bearing.{born_later, few_clocks}
use Rattle.lock_machine.proofs.RowRoom.{room_kept}
use Rattle.lock_machine.proofs.Bearing.{few_kept}
use Rattle.lock_machine.proofs.Wanting.{waits_answered, waits_at}
use Rattle.lock_machine.proofs.machine.LockMachine.answer_recorded.Goals as goal

pub returns-in_default-clause-event : goal.returns-in_default-clause-event
returns-in_default-clause-event c = conclude_lost c.args.self.now c.args.i c.args.outing c.requires.recorded
    (λ n is. c.in_default.not-Some n is)

pub returns-in_default-get_mut-clause-event : goal.returns-in_default-get_mut-clause-event
returns-in_default-get_mut-clause-event c =
    let m = c.self.inside in
    let v : Whole = whole_by m.settings m.threads.items m.clocks m.shared.lock m.objects.items m.shared.store.value
    m.shared.rows.items in
    let view : v ≡ c.args.self.now = c.self.view_is in
    let inside = inside_of m.threads.items m.clocks v c.args.self.now c.args.i refl view c.requires.inside in
    let past : length m.objects.items ≤ c.in-Some.object = search rules in
    subst (λ (w : Whole). Tells None c.args.i w v) view
    (conclude_none v m.threads.items m.clocks c.args.i c.args.outing inside
    (item_in (λ p. p ≡ phase.Recorded c.args.outing) m.threads.items m.clocks v c.args.self.now c.args.i refl view
    inside c.requires.recorded)
    (λ n is. subst (λ (k : ℕ). length m.objects.items ≤ k) (same_some c.in-Some.object n (sym c.in-Some.is ∙ is)) past))

pub invariant_of-self-inside-2 : goal.invariant_of-self-inside-2
invariant_of-self-inside-2 c =
    let m = c.self.inside in
    let v : Whole = whole_by m.settings m.threads.items m.clocks m.shared.lock m.objects.items m.shared.store.value
    m.shared.rows.items in
    let view : v ≡ c.args.self.now = c.self.view_is in
    let inside = inside_of m.threads.items m.clocks v c.args.self.now c.args.i refl view c.requires.inside in
    let item = item_of m.threads.items m.clocks c.args.i c.index_mut.result.now c.answer_outside.new.thread
    c.answer_outside.new.clocks m.agree inside c.index_mut.ensures.value c.answer_outside.ensures.others in (
      item_agrees m.threads.items m.clocks c.args.i c.index_mut.result.now c.answer_outside.new.thread
          c.answer_outside.new.clocks m.agree item,
      (
        few_kept m.threads.items c.args.i c.answer_outside.new.thread m.few,
        (
          born_later m.clocks c.answer_outside.new.clocks c.args.i c.index_mut.result.now c.answer_outside.new.thread
              m.shared.store.value c.answer_outside.new.shared.store.value
              (clock_inside m.threads.items m.clocks c.args.i m.agree inside) c.answer_outside.ensures.others
              c.answer_outside.ensures.births m.births,
          (
            room_kept m.threads.items c.args.i c.index_mut.result.now c.answer_outside.new.thread m.shared.rows
                c.answer_outside.new.shared.rows inside c.index_mut.ensures.value c.answer_outside.ensures.room m.room,
            (
              waits_answered m.threads.items c.args.i c.index_mut.result.now c.answer_outside.new.thread m.shared.lock
                  c.answer_outside.new.shared.lock m.shared.rows.items c.answer_outside.new.shared.rows.items
                  m.shared.store.value c.answer_outside.new.shared.store.value m.shared.wanted
                  c.answer_outside.new.shared.wanted
                  inside c.index_mut.ensures.value c.answer_outside.ensures.brings c.answer_outside.ensures.wanted
                  m.wanted,
              tt,
            ),
          ),
        ),
      ),
    )

pub returns-clause-event : goal.returns-clause-event
returns-clause-event c =
    let m = c.self.inside in
    let v : Whole = whole_by m.settings m.threads.items m.clocks m.shared.lock m.objects.items m.shared.store.value
    m.shared.rows.items in
    let view : v ≡ c.args.self.now = c.self.view_is in
    let inside = inside_of m.threads.items m.clocks v c.args.self.now c.args.i refl view c.requires.inside in
    let item = item_of m.threads.items m.clocks c.args.i c.index_mut.result.now c.answer_outside.new.thread
    c.answer_outside.new.clocks m.agree inside c.index_mut.ensures.value c.answer_outside.ensures.others in
    let own : c.in-Some-get_mut.lock.now ≡ get_or m.objects.items c.in-Some.object new_lock = search rules in
    subst (λ (w : Whole). Tells c.answer_outside.result c.args.i w
    (record v {
      threads = joined (set m.threads.items c.args.i c.answer_outside.new.thread)
          c.answer_outside.new.clocks;
      lock = c.answer_outside.new.shared.lock;
      objects = set m.objects.items c.in-Some.object c.answer_outside.new.lock;
      table = c.answer_outside.new.shared.store.value;
      rows = c.answer_outside.new.shared.rows.items;
    })) view
    (conclude_done c.arising_states.ensures.locks c.arising_states.ensures.rows c.arising_states.ensures.plans v
    m.threads.items m.clocks c.answer_outside.new.clocks c.args.i c.in-Some.object c.args.outing
    c.index_mut.result.now c.answer_outside.new.thread c.in-Some-get_mut.lock.now c.answer_outside.new.lock
    c.answer_outside.new.shared.lock c.answer_outside.new.shared.store.value c.answer_outside.new.shared.rows.items
    c.answer_outside.result item
    (phase_at m.threads.items c.args.i c.index_mut.result.now (phase.Recorded c.args.outing) inside
    c.index_mut.ensures.value (item_in (λ p. p ≡ phase.Recorded c.args.outing) m.threads.items m.clocks v
    c.args.self.now c.args.i refl view inside c.requires.recorded)) c.in-Some.is own c.answer_outside.ensures.event)

pub index_mut-requires : goal.index_mut-requires
index_mut-requires c =
    let m = c.self.inside in
    let v : Whole = whole_by m.settings m.threads.items m.clocks m.shared.lock m.objects.items m.shared.store.value
    m.shared.rows.items in
    let view : v ≡ c.args.self.now = c.self.view_is in
    let inside = inside_of m.threads.items m.clocks v c.args.self.now c.args.i refl view c.requires.inside in
    let size : m.threads.len ≡ length m.threads.items = search rules in
    subst (λ (n : ℕ). c.args.i < n) (sym size) inside

pub answer_outside-requires-clause-inside : goal.answer_outside-requires-clause-inside
answer_outside-requires-clause-inside c =
    let m = c.self.inside in
    let v : Whole = whole_by m.settings m.threads.items m.clocks m.shared.lock m.objects.items m.shared.store.value
    m.shared.rows.items in
    let view : v ≡ c.args.self.now = c.self.view_is in
    let inside = inside_of m.threads.items m.clocks v c.args.self.now c.args.i refl view c.requires.inside in
    clock_inside m.threads.items m.clocks c.args.i m.agree inside

pub answer_outside-requires-clause-recorded : goal.answer_outside-requires-clause-recorded
answer_outside-requires-clause-recorded c =
    let m = c.self.inside in
    let v : Whole = whole_by m.settings m.threads.items m.clocks m.shared.lock m.objects.items m.shared.store.value
    m.shared.rows.items in
    let view : v ≡ c.args.self.now = c.self.view_is in
    let inside = inside_of m.threads.items m.clocks v c.args.self.now c.args.i refl view c.requires.inside in
    phase_at m.threads.items c.args.i c.index_mut.result.now (phase.Recorded c.args.outing) inside
    c.index_mut.ensures.value (item_in (λ p. p ≡ phase.Recorded c.args.outing) m.threads.items m.clocks v
    c.args.self.now c.args.i refl view inside c.requires.recorded)

pub returns-clause-count : goal.returns-clause-count
returns-clause-count c =
    let m = c.self.inside in
    let v : Whole = whole_by m.settings m.threads.items m.clocks m.shared.lock m.objects.items m.shared.store.value
    m.shared.rows.items in
    let view : v ≡ c.args.self.now = c.self.view_is in
    let inside = inside_of m.threads.items m.clocks v c.args.self.now c.args.i refl view c.requires.inside in
    count_kept m.threads.items (set m.threads.items c.args.i c.answer_outside.new.thread) m.clocks
    c.answer_outside.new.clocks v c.args.self.now refl view
    (length-set m.threads.items c.args.i c.answer_outside.new.thread)

pub returns-clause-rests : goal.returns-clause-rests
returns-clause-rests c =
    let m = c.self.inside in
    let v : Whole = whole_by m.settings m.threads.items m.clocks m.shared.lock m.objects.items m.shared.store.value
    m.shared.rows.items in
    let view : v ≡ c.args.self.now = c.self.view_is in
    let inside = inside_of m.threads.items m.clocks v c.args.self.now c.args.i refl view c.requires.inside in
    let x = c.index_mut.result.now in
    let item = item_of m.threads.items m.clocks c.args.i x c.answer_outside.new.thread c.answer_outside.new.clocks
    m.agree inside c.index_mut.ensures.value c.answer_outside.ensures.others in
    let own : c.in-Some-get_mut.lock.now ≡ get_or m.objects.items c.in-Some.object new_lock = search rules in
    subst (λ (w : Whole). Rests (is_some c.answer_outside.result) w
    (record v {
      threads = joined (set m.threads.items c.args.i c.answer_outside.new.thread)
          c.answer_outside.new.clocks;
      lock = c.answer_outside.new.shared.lock;
      objects = set m.objects.items c.in-Some.object c.answer_outside.new.lock;
      table = c.answer_outside.new.shared.store.value;
      rows = c.answer_outside.new.shared.rows.items;
    })) view
    (conclude_rests v m.threads.items m.clocks c.answer_outside.new.clocks c.args.i c.in-Some.object c.args.outing x
    c.answer_outside.new.thread c.in-Some-get_mut.lock.now c.answer_outside.new.lock
    c.answer_outside.new.shared.lock c.answer_outside.new.shared.store.value c.answer_outside.new.shared.rows.items
    c.answer_outside.result item own c.answer_outside.ensures.event)

pub answer_outside-requires-clause-few : goal.answer_outside-requires-clause-few
answer_outside-requires-clause-few c =
    few_clocks c.self.inside.threads.items c.self.inside.clocks c.self.inside.agree c.self.inside.few

pub answer_outside-requires-clause-decided : goal.answer_outside-requires-clause-decided
answer_outside-requires-clause-decided c =
    let m = c.self.inside in
    let v : Whole = whole_by m.settings m.threads.items m.clocks m.shared.lock m.objects.items m.shared.store.value
    m.shared.rows.items in
    let inside = inside_of m.threads.items m.clocks v c.args.self.now c.args.i refl c.self.view_is c.requires.inside in
    waits_at m.threads.items c.args.i c.index_mut.result.now m.shared.lock m.shared.rows.items m.shared.store.value
    m.shared.wanted inside c.index_mut.ensures.value m.wanted
