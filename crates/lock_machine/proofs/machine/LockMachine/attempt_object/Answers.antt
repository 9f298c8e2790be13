use Rattle.lock_machine.specs.Threads.{Thread as Seen, joined}
use Rattle.lock_machine.specs.Views.{no_thread}
use Rattle.std.proofs.lemmas.List.{length-set}
use Rattle.lock_machine.proofs.Inside.{inside_of, item_in, turn_of, whole_by, clock_inside, count_kept}
use Rattle.lock_machine.specs.Whole.{Whole}
use Rattle.lock_machine.specs.Refusals.{Rests}
use Rattle.lock_machine.specs.Shows.{Attempts, WantsIn}
use Rattle.std.proofs.Common.{Bool, Ok, ◌≡◌, ◌≤◌, length, get_or, rules, false, subst, refl, ℕ, ◌<◌, set, sym}
use Rattle.det_mutex.specs.Attempt.{new_lock}
use Rattle.lock_machine.proofs.AttemptEvents.{reach_done, reach_none}
use Rattle.lock_machine.proofs.EventShows.{item_agrees, item_of, wants_at}
use Rattle.lock_machine.proofs.Resting.{reach_rests}
use Rattle.lock_machine.proofs.Bearing.{born_later, few_clocks}
use Rattle.lock_machine.proofs.RowRoom.{room_at, room_kept}
use Rattle.lock_machine.proofs.Bearing.{few_kept}
use Rattle.lock_machine.proofs.Wanting.{waits_at, waits_kept}
use Rattle.lock_machine.specs.DoorMoves.{StartsDoors}
use Rattle.lock_machine.specs.declared.thread.Phase.{Phase}
use Rattle.lock_machine.proofs.DoorSteps.{phase_set, wants_in}
use Rattle.lock_machine.proofs.machine.LockMachine.attempt_object.Goals as goal

pub returns-in_default-clause-event : goal.returns-in_default-clause-event
returns-in_default-clause-event c =
    let m = c.self.inside in
    let v : Whole = whole_by m.settings m.threads.items m.clocks m.shared.lock m.objects.items m.shared.store.value
    m.shared.rows.items in
    let view : v ≡ c.args.self.now = c.self.view_is in
    let inside = inside_of m.threads.items m.clocks v c.args.self.now c.args.i refl view c.requires.inside in
    let past : length m.objects.items ≤ c.args.object = search rules in
    subst (λ (w : Whole). Attempts false c.args.i w v) view
    (reach_none v m.threads.items m.clocks c.args.i c.args.object inside
    (item_in (λ p. WantsIn p c.args.object) m.threads.items m.clocks v c.args.self.now c.args.i refl view inside
    c.requires.wants) past)

pub invariant_of-self-inside-2 : goal.invariant_of-self-inside-2
invariant_of-self-inside-2 c =
    let m = c.self.inside in
    let v : Whole = whole_by m.settings m.threads.items m.clocks m.shared.lock m.objects.items m.shared.store.value
    m.shared.rows.items in
    let view : v ≡ c.args.self.now = c.self.view_is in
    let inside = inside_of m.threads.items m.clocks v c.args.self.now c.args.i refl view c.requires.inside in (
      item_agrees m.threads.items m.clocks c.args.i c.index_mut.result.now c.try_object.new.thread
          c.try_object.new.clocks m.agree
          (item_of m.threads.items m.clocks c.args.i c.index_mut.result.now c.try_object.new.thread
          c.try_object.new.clocks m.agree inside c.index_mut.ensures.value c.try_object.ensures.others),
      (
        few_kept m.threads.items c.args.i c.try_object.new.thread m.few,
        (
          born_later m.clocks c.try_object.new.clocks c.args.i c.index_mut.result.now c.try_object.new.thread
              m.shared.store.value c.try_object.new.shared.store.value
              (clock_inside m.threads.items m.clocks c.args.i m.agree inside) c.try_object.ensures.others
              c.try_object.ensures.births m.births,
          (
            room_kept m.threads.items c.args.i c.index_mut.result.now c.try_object.new.thread m.shared.rows
                c.try_object.new.shared.rows inside c.index_mut.ensures.value c.try_object.ensures.room m.room,
            (
              waits_kept m.threads.items c.args.i c.index_mut.result.now c.try_object.new.thread m.shared.lock
                  c.try_object.new.shared.lock m.shared.rows.items c.try_object.new.shared.rows.items
                  m.shared.store.value
                  c.try_object.new.shared.store.value m.shared.wanted c.try_object.new.shared.wanted inside
                  c.try_object.ensures.decided c.try_object.ensures.wanted m.wanted,
              tt,
            ),
          ),
        ),
      ),
    )

pub returns-clause-event : goal.returns-clause-event
returns-clause-event c =
    let m = c.self.inside in
    let v : Whole = whole_by m.settings m.threads.items m.clocks m.shared.lock m.objects.items m.shared.store.value
    m.shared.rows.items in
    let view : v ≡ c.args.self.now = c.self.view_is in
    let inside = inside_of m.threads.items m.clocks v c.args.self.now c.args.i refl view c.requires.inside in
    let own : c.in-Some.lock.now ≡ get_or m.objects.items c.args.object new_lock = search rules in
    subst (λ (w : Whole). (λ (made : Bool). Attempts made c.args.i w
    (record v {
      threads = joined (set m.threads.items c.args.i c.try_object.new.thread) c.try_object.new.clocks;
      lock = c.try_object.new.shared.lock;
      objects = set m.objects.items c.args.object c.try_object.new.lock;
      table = c.try_object.new.shared.store.value;
      rows = c.try_object.new.shared.rows.items;
    })) c.try_object.result) view
    (reach_done c.calls_outside.ensures.keeps c.arising_states.ensures.plans v m.threads.items m.clocks
    c.try_object.new.clocks c.args.i c.args.object c.index_mut.result.now c.try_object.new.thread
    c.try_object.new.shared.lock c.in-Some.lock.now c.try_object.new.lock c.try_object.new.shared.store.value
    c.try_object.new.shared.rows.items (Ok c.try_object.result)
    (item_of m.threads.items m.clocks c.args.i c.index_mut.result.now c.try_object.new.thread c.try_object.new.clocks
    m.agree inside c.index_mut.ensures.value c.try_object.ensures.others)
    m.agree (turn_of m.threads.items m.clocks v c.args.self.now c.args.i m.agree refl view c.requires.turn)
    (wants_at m.threads.items c.args.i c.args.object c.index_mut.result.now inside c.index_mut.ensures.value
    (item_in (λ p. WantsIn p c.args.object) m.threads.items m.clocks v c.args.self.now c.args.i refl view inside
    c.requires.wants)) own c.try_object.ensures.event)

pub index_mut-requires : goal.index_mut-requires
index_mut-requires c =
    let m = c.self.inside in
    let v : Whole = whole_by m.settings m.threads.items m.clocks m.shared.lock m.objects.items m.shared.store.value
    m.shared.rows.items in
    let view : v ≡ c.args.self.now = c.self.view_is in
    let inside = inside_of m.threads.items m.clocks v c.args.self.now c.args.i refl view c.requires.inside in
    let size : m.threads.len ≡ length m.threads.items = search rules in
    subst (λ (n : ℕ). c.args.i < n) (sym size) inside

pub try_object-requires-clause-inside : goal.try_object-requires-clause-inside
try_object-requires-clause-inside c =
    let m = c.self.inside in
    let v : Whole = whole_by m.settings m.threads.items m.clocks m.shared.lock m.objects.items m.shared.store.value
    m.shared.rows.items in
    let view : v ≡ c.args.self.now = c.self.view_is in
    let inside = inside_of m.threads.items m.clocks v c.args.self.now c.args.i refl view c.requires.inside in
    clock_inside m.threads.items m.clocks c.args.i m.agree inside

pub returns-clause-count : goal.returns-clause-count
returns-clause-count c =
    let m = c.self.inside in
    let v : Whole = whole_by m.settings m.threads.items m.clocks m.shared.lock m.objects.items m.shared.store.value
    m.shared.rows.items in
    let view : v ≡ c.args.self.now = c.self.view_is in
    let inside = inside_of m.threads.items m.clocks v c.args.self.now c.args.i refl view c.requires.inside in
    count_kept m.threads.items (set m.threads.items c.args.i c.try_object.new.thread) m.clocks c.try_object.new.clocks v
    c.args.self.now refl view (length-set m.threads.items c.args.i c.try_object.new.thread)

pub returns-clause-rests : goal.returns-clause-rests
returns-clause-rests c =
    let m = c.self.inside in
    let v : Whole = whole_by m.settings m.threads.items m.clocks m.shared.lock m.objects.items m.shared.store.value
    m.shared.rows.items in
    let view : v ≡ c.args.self.now = c.self.view_is in
    let inside = inside_of m.threads.items m.clocks v c.args.self.now c.args.i refl view c.requires.inside in
    let x = c.index_mut.result.now in
    let own : c.in-Some.lock.now ≡ get_or m.objects.items c.args.object new_lock = search rules in
    let item = item_of m.threads.items m.clocks c.args.i x c.try_object.new.thread c.try_object.new.clocks m.agree
    inside c.index_mut.ensures.value c.try_object.ensures.others in
    subst (λ (w : Whole). (λ (made : Bool). Rests made w
    (record v {
      threads = joined (set m.threads.items c.args.i c.try_object.new.thread) c.try_object.new.clocks;
      lock = c.try_object.new.shared.lock;
      objects = set m.objects.items c.args.object c.try_object.new.lock;
      table = c.try_object.new.shared.store.value;
      rows = c.try_object.new.shared.rows.items;
    })) c.try_object.result) view
    (reach_rests v m.threads.items m.clocks c.try_object.new.clocks c.args.i c.args.object x c.try_object.new.thread
    c.try_object.new.shared.lock c.in-Some.lock.now c.try_object.new.lock c.try_object.new.shared.store.value
    c.try_object.new.shared.rows.items (Ok c.try_object.result) item own c.try_object.ensures.event)

pub try_object-requires-clause-few : goal.try_object-requires-clause-few
try_object-requires-clause-few c =
    few_clocks c.self.inside.threads.items c.self.inside.clocks c.self.inside.agree c.self.inside.few

pub try_object-requires-clause-row : goal.try_object-requires-clause-row
try_object-requires-clause-row c =
    let m = c.self.inside in
    let v : Whole = whole_by m.settings m.threads.items m.clocks m.shared.lock m.objects.items m.shared.store.value
    m.shared.rows.items in
    let inside = inside_of m.threads.items m.clocks v c.args.self.now c.args.i refl c.self.view_is c.requires.inside in
    room_at m.threads.items c.args.i c.index_mut.result.now m.shared.rows inside c.index_mut.ensures.value m.room

pub try_object-requires-clause-decided : goal.try_object-requires-clause-decided
try_object-requires-clause-decided c =
    let m = c.self.inside in
    let v : Whole = whole_by m.settings m.threads.items m.clocks m.shared.lock m.objects.items m.shared.store.value
    m.shared.rows.items in
    let inside = inside_of m.threads.items m.clocks v c.args.self.now c.args.i refl c.self.view_is c.requires.inside in
    waits_at m.threads.items c.args.i c.index_mut.result.now m.shared.lock m.shared.rows.items m.shared.store.value
    m.shared.wanted inside c.index_mut.ensures.value m.wanted

pub returns-clause-doors : goal.returns-clause-doors
returns-clause-doors c =
    let m = c.self.inside in
    let v : Whole = whole_by m.settings m.threads.items m.clocks m.shared.lock m.objects.items m.shared.store.value
    m.shared.rows.items in
    let view : v ≡ c.args.self.now = c.self.view_is in
    let inside = inside_of m.threads.items m.clocks v c.args.self.now c.args.i refl view c.requires.inside in
    let x = c.index_mut.result.now in
    let wants : WantsIn x.phase c.args.object =
    wants_at m.threads.items c.args.i c.args.object x inside c.index_mut.ensures.value
    (item_in (λ p. WantsIn p c.args.object) m.threads.items m.clocks v c.args.self.now c.args.i refl view inside
    c.requires.wants) in
    let after : Phase =
    (let t : Seen = get_or (joined (set m.threads.items c.args.i c.try_object.new.thread) c.try_object.new.clocks)
    c.args.i no_thread in t.phase) in
    subst (λ (w : Whole). StartsDoors after w.table c.try_object.new.shared.store.value) view
    (subst (λ (p : Phase). StartsDoors p m.shared.store.value c.try_object.new.shared.store.value)
    (sym (phase_set m.threads.items c.try_object.new.clocks c.args.i c.try_object.new.thread inside))
    (c.try_object.ensures.doors (wants_in x.phase c.args.object wants)))
