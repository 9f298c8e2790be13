use Rattle.std.proofs.Common.{Bool, Ok, ◌≡◌, true, rules, subst, refl, ℕ, ◌<◌, length, get_or, set, sym}
use Rattle.std.proofs.lemmas.List.{length-set}
use Rattle.lock_machine.specs.Refusals.{Rests, wants_table}
use Rattle.lock_machine.specs.Shows.{Attempts}
use Rattle.lock_machine.specs.DoorMoves.{PlansDoors}
use Rattle.lock_machine.specs.Threads.{Thread as Seen, joined}
use Rattle.lock_machine.specs.Views.{no_thread}
use Rattle.lock_machine.specs.Whole.{Whole}
use Rattle.lock_machine.specs.declared.thread.Phase.{Phase}
use Rattle.lock_machine.proofs.AttemptEvents.{try_done}
use Rattle.lock_machine.proofs.DoorSteps.{phase_set}
use Rattle.lock_machine.proofs.EventShows.{item_agrees, item_of}
use Rattle.lock_machine.proofs.Inside.{clock_inside, count_kept, inside_of, item_in, phase_in, turn_of, whole_by}
use Rattle.lock_machine.proofs.Refusing.{table_phase}
use Rattle.lock_machine.proofs.Resting.{try_rests}
use Rattle.lock_machine.proofs.Bearing.{born_later, few_clocks}
use Rattle.lock_machine.proofs.RowRoom.{room_at, room_kept}
use Rattle.lock_machine.proofs.Bearing.{few_kept}
use Rattle.lock_machine.proofs.Wanting.{waits_at, waits_kept}
use Rattle.lock_machine.proofs.machine.LockMachine.attempt_table.Goals as goal

pub invariant_of-self-inside : goal.invariant_of-self-inside
invariant_of-self-inside c =
    let m = c.self.inside in
    let v : Whole = whole_by m.settings m.threads.items m.clocks m.shared.lock m.objects.items m.shared.store.value
    m.shared.rows.items in
    let view : v ≡ c.args.self.now = c.self.view_is in
    let inside = inside_of m.threads.items m.clocks v c.args.self.now c.args.i refl view c.requires.inside in
    let x = c.index_mut.result.now in
    let item = item_of m.threads.items m.clocks c.args.i x c.try_table.new.thread c.try_table.new.clocks m.agree inside
    c.index_mut.ensures.value c.try_table.ensures.others in (
      item_agrees m.threads.items m.clocks c.args.i x c.try_table.new.thread c.try_table.new.clocks m.agree item,
      (
        few_kept m.threads.items c.args.i c.try_table.new.thread m.few,
        (
          born_later m.clocks c.try_table.new.clocks c.args.i c.index_mut.result.now c.try_table.new.thread
              m.shared.store.value c.try_table.new.shared.store.value
              (clock_inside m.threads.items m.clocks c.args.i m.agree inside) c.try_table.ensures.others
              c.try_table.ensures.births m.births,
          (
            room_kept m.threads.items c.args.i c.index_mut.result.now c.try_table.new.thread m.shared.rows
                c.try_table.new.shared.rows inside c.index_mut.ensures.value c.try_table.ensures.room m.room,
            (
              waits_kept m.threads.items c.args.i c.index_mut.result.now c.try_table.new.thread m.shared.lock
                  c.try_table.new.shared.lock m.shared.rows.items c.try_table.new.shared.rows.items m.shared.store.value
                  c.try_table.new.shared.store.value m.shared.wanted c.try_table.new.shared.wanted inside
                  c.try_table.ensures.decided c.try_table.ensures.wanted m.wanted,
              tt,
            ),
          ),
        ),
      ),
    )

pub returns-clause-event : goal.returns-clause-event
returns-clause-event c =
    let m = c.self.inside in
    let v : Whole = whole_by m.settings m.threads.items m.clocks m.shared.lock m.objects.items m.shared.store.value
    m.shared.rows.items in
    let view : v ≡ c.args.self.now = c.self.view_is in
    let inside = inside_of m.threads.items m.clocks v c.args.self.now c.args.i refl view c.requires.inside in
    let x = c.index_mut.result.now in
    let P : Phase → Type 0 = λ p. wants_table p ≡ true in
    let wants = item_in P m.threads.items m.clocks v c.args.self.now c.args.i refl view inside c.requires.wants in
    let table = table_phase x.phase (phase_in P m.threads.items c.args.i x inside c.index_mut.ensures.value wants) in
    let turn = turn_of m.threads.items m.clocks v c.args.self.now c.args.i m.agree refl view c.requires.turn in
    subst (λ (w : Whole). (λ (made : Bool). Attempts made c.args.i w
    (record v {
      threads = joined (set m.threads.items c.args.i c.try_table.new.thread) c.try_table.new.clocks;
      lock = c.try_table.new.shared.lock;
      table = c.try_table.new.shared.store.value;
      rows = c.try_table.new.shared.rows.items;
    })) c.try_table.result) view
    (try_done c.calls_outside.ensures.locks c.locks_and_doors.ensures.numbers v m.threads.items m.clocks
    c.try_table.new.clocks c.args.i table.0 table.1 x c.try_table.new.thread c.try_table.new.shared.lock
    c.try_table.new.shared.store.value c.try_table.new.shared.rows.items (Ok c.try_table.result)
    (item_of m.threads.items m.clocks c.args.i x c.try_table.new.thread c.try_table.new.clocks m.agree inside
    c.index_mut.ensures.value c.try_table.ensures.others)
    m.agree turn table.2 c.try_table.ensures.event)

pub index_mut-requires : goal.index_mut-requires
index_mut-requires c =
    let m = c.self.inside in
    let v : Whole = whole_by m.settings m.threads.items m.clocks m.shared.lock m.objects.items m.shared.store.value
    m.shared.rows.items in
    let view : v ≡ c.args.self.now = c.self.view_is in
    let inside = inside_of m.threads.items m.clocks v c.args.self.now c.args.i refl view c.requires.inside in
    let size : m.threads.len ≡ length m.threads.items = search rules in
    subst (λ (n : ℕ). c.args.i < n) (sym size) inside

pub try_table-requires-clause-inside : goal.try_table-requires-clause-inside
try_table-requires-clause-inside c =
    let m = c.self.inside in
    let v : Whole = whole_by m.settings m.threads.items m.clocks m.shared.lock m.objects.items m.shared.store.value
    m.shared.rows.items in
    let view : v ≡ c.args.self.now = c.self.view_is in
    let inside = inside_of m.threads.items m.clocks v c.args.self.now c.args.i refl view c.requires.inside in
    clock_inside m.threads.items m.clocks c.args.i m.agree inside

pub returns-clause-count : goal.returns-clause-count
returns-clause-count c =
    let m = c.self.inside in
    let v : Whole = whole_by m.settings m.threads.items m.clocks m.shared.lock m.objects.items m.shared.store.value
    m.shared.rows.items in
    let view : v ≡ c.args.self.now = c.self.view_is in
    let inside = inside_of m.threads.items m.clocks v c.args.self.now c.args.i refl view c.requires.inside in
    count_kept m.threads.items (set m.threads.items c.args.i c.try_table.new.thread) m.clocks c.try_table.new.clocks v
    c.args.self.now refl view (length-set m.threads.items c.args.i c.try_table.new.thread)

pub returns-clause-rests : goal.returns-clause-rests
returns-clause-rests c =
    let m = c.self.inside in
    let v : Whole = whole_by m.settings m.threads.items m.clocks m.shared.lock m.objects.items m.shared.store.value
    m.shared.rows.items in
    let view : v ≡ c.args.self.now = c.self.view_is in
    let inside = inside_of m.threads.items m.clocks v c.args.self.now c.args.i refl view c.requires.inside in
    let x = c.index_mut.result.now in
    let item = item_of m.threads.items m.clocks c.args.i x c.try_table.new.thread c.try_table.new.clocks m.agree inside
    c.index_mut.ensures.value c.try_table.ensures.others in
    subst (λ (w : Whole). (λ (made : Bool). Rests made w
    (record v {
      threads = joined (set m.threads.items c.args.i c.try_table.new.thread) c.try_table.new.clocks;
      lock = c.try_table.new.shared.lock;
      table = c.try_table.new.shared.store.value;
      rows = c.try_table.new.shared.rows.items;
    })) c.try_table.result) view
    (try_rests v m.threads.items m.clocks c.try_table.new.clocks c.args.i x c.try_table.new.thread
    c.try_table.new.shared.lock c.try_table.new.shared.store.value c.try_table.new.shared.rows.items
    (Ok c.try_table.result) item c.try_table.ensures.event)

pub try_table-requires-clause-few : goal.try_table-requires-clause-few
try_table-requires-clause-few c =
    few_clocks c.self.inside.threads.items c.self.inside.clocks c.self.inside.agree c.self.inside.few

pub try_table-requires-clause-row : goal.try_table-requires-clause-row
try_table-requires-clause-row c =
    let m = c.self.inside in
    let v : Whole = whole_by m.settings m.threads.items m.clocks m.shared.lock m.objects.items m.shared.store.value
    m.shared.rows.items in
    let inside = inside_of m.threads.items m.clocks v c.args.self.now c.args.i refl c.self.view_is c.requires.inside in
    room_at m.threads.items c.args.i c.index_mut.result.now m.shared.rows inside c.index_mut.ensures.value m.room

pub try_table-requires-clause-decided : goal.try_table-requires-clause-decided
try_table-requires-clause-decided c =
    let m = c.self.inside in
    let v : Whole = whole_by m.settings m.threads.items m.clocks m.shared.lock m.objects.items m.shared.store.value
    m.shared.rows.items in
    let inside = inside_of m.threads.items m.clocks v c.args.self.now c.args.i refl c.self.view_is c.requires.inside in
    waits_at m.threads.items c.args.i c.index_mut.result.now m.shared.lock m.shared.rows.items m.shared.store.value
    m.shared.wanted inside c.index_mut.ensures.value m.wanted

pub returns-clause-doors : goal.returns-clause-doors
returns-clause-doors c =
    let m = c.self.inside in
    let v : Whole = whole_by m.settings m.threads.items m.clocks m.shared.lock m.objects.items m.shared.store.value
    m.shared.rows.items in
    let view : v ≡ c.args.self.now = c.self.view_is in
    let inside = inside_of m.threads.items m.clocks v c.args.self.now c.args.i refl view c.requires.inside in
    let x = c.index_mut.result.now in
    let P : Phase → Type 0 = λ p. wants_table p ≡ true in
    let wants = item_in P m.threads.items m.clocks v c.args.self.now c.args.i refl view inside c.requires.wants in
    let after : Phase =
    (let t : Seen = get_or (joined (set m.threads.items c.args.i c.try_table.new.thread) c.try_table.new.clocks)
    c.args.i no_thread in t.phase) in
    subst (λ (w : Whole). PlansDoors after w.table c.try_table.new.shared.store.value) view
    (subst (λ (p : Phase). PlansDoors p m.shared.store.value c.try_table.new.shared.store.value)
    (sym (phase_set m.threads.items c.try_table.new.clocks c.args.i c.try_table.new.thread inside))
    (c.try_table.ensures.doors (phase_in P m.threads.items c.args.i x inside c.index_mut.ensures.value wants)))
