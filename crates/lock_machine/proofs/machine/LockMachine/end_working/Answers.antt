use Rattle.lock_machine.specs.Threads.{joined}
use Rattle.std.proofs.lemmas.List.{length-set}
use Rattle.std.proofs.Common.{ℕ, ◌<◌, length, rules, set, sym, ◌≡◌, subst, refl}
use Rattle.std.specs.Prelude.{Ok}
use Rattle.posix_terms.specs.declared.step.Step.TheVariants as step
use Rattle.lock_machine.proofs.Inside.{clock_inside, count_kept, inside_of, item_in, lives_in, whole_by}
use Rattle.lock_machine.specs.Whole.{Whole}
use Rattle.lock_machine.specs.Refusals.{Rests}
use Rattle.lock_machine.specs.Shows.{AsksFor}
use Rattle.lock_machine.specs.declared.thread.Phase.TheVariants as phase
use Rattle.lock_machine.proofs.EventShows.{ask_done, item_agrees, item_of, phase_at}
use Rattle.lock_machine.proofs.Resting.{ask_rests}
use Rattle.lock_machine.proofs.Bearing.{born_still, few_kept}
use Rattle.lock_machine.proofs.RowRoom.{room_less}
use Rattle.lock_machine.proofs.Wanting.{waits_still}
use Rattle.lock_machine.proofs.machine.LockMachine.end_working.Goals as goal

pub invariant_of-self-inside : goal.invariant_of-self-inside
invariant_of-self-inside c =
    let m = c.self.inside in
    let v : Whole = whole_by m.settings m.threads.items m.clocks m.shared.lock m.objects.items m.shared.store.value
    m.shared.rows.items in
    let view : v ≡ c.args.self.now = c.self.view_is in
    let inside = inside_of m.threads.items m.clocks v c.args.self.now c.args.i refl view c.requires.inside in
    let item = item_of m.threads.items m.clocks c.args.i c.index_mut.result.now c.end.new.self c.end.new.clocks m.agree
    inside c.index_mut.ensures.value c.end.ensures.others in (
      item_agrees m.threads.items m.clocks c.args.i c.index_mut.result.now c.end.new.self c.end.new.clocks m.agree item,
      (
        few_kept m.threads.items c.args.i c.end.new.self m.few,
        (
          born_still m.clocks c.end.new.clocks c.args.i c.index_mut.result.now c.end.new.self m.shared.store.value
              (clock_inside m.threads.items m.clocks c.args.i m.agree inside) c.end.ensures.others m.births,
          (
            room_less m.threads.items c.args.i c.index_mut.result.now c.end.new.self m.shared.rows inside
                c.index_mut.ensures.value c.end.ensures.due m.room,
            (
              waits_still m.threads.items c.args.i c.index_mut.result.now c.end.new.self m.shared.lock m.shared.lock
                  m.shared.rows.items m.shared.rows.items m.shared.store.value m.shared.wanted inside
                  c.index_mut.ensures.value
                  (c.end.ensures.brings m.shared.rows.items) (λ n. refl) (λ k held. held) m.wanted,
              tt,
            ),
          ),
        ),
      ),
    )

pub returns-clause-event : goal.returns-clause-event
returns-clause-event c =
    let m = c.self.inside in
    let v : Whole = whole_by m.settings m.threads.items m.clocks m.shared.lock m.objects.items m.shared.store.value
    m.shared.rows.items in
    let view : v ≡ c.args.self.now = c.self.view_is in
    let inside = inside_of m.threads.items m.clocks v c.args.self.now c.args.i refl view c.requires.inside in
    let x = c.index_mut.result.now in
    let item = item_of m.threads.items m.clocks c.args.i x c.end.new.self c.end.new.clocks m.agree inside
    c.index_mut.ensures.value c.end.ensures.others in
    subst (λ (w : Whole). AsksFor c.end.result c.args.i step.End w
    (record v { threads = joined (set m.threads.items c.args.i c.end.new.self) c.end.new.clocks })) view
    (ask_done v m.threads.items m.clocks c.end.new.clocks c.args.i step.End x c.end.new.self (Ok c.end.result)
    c.arising_states.ensures.steps item
    (phase_at m.threads.items c.args.i x phase.Working inside c.index_mut.ensures.value
    (item_in (λ p. p ≡ phase.Working) m.threads.items m.clocks v c.args.self.now c.args.i refl view inside
    c.requires.working)) c.end.ensures.event)

pub index_mut-requires : goal.index_mut-requires
index_mut-requires c =
    let m = c.self.inside in
    let v : Whole = whole_by m.settings m.threads.items m.clocks m.shared.lock m.objects.items m.shared.store.value
    m.shared.rows.items in
    let inside = inside_of m.threads.items m.clocks v c.args.self.now c.args.i refl c.self.view_is c.requires.inside in
    let size : m.threads.len ≡ length m.threads.items = search rules in
    subst (λ (n : ℕ). c.args.i < n) (sym size) inside

pub end-requires-clause-inside : goal.end-requires-clause-inside
end-requires-clause-inside c =
    let m = c.self.inside in
    let v : Whole = whole_by m.settings m.threads.items m.clocks m.shared.lock m.objects.items m.shared.store.value
    m.shared.rows.items in
    let inside = inside_of m.threads.items m.clocks v c.args.self.now c.args.i refl c.self.view_is c.requires.inside in
    clock_inside m.threads.items m.clocks c.args.i m.agree inside

pub end-requires-clause-live : goal.end-requires-clause-live
end-requires-clause-live c =
    let m = c.self.inside in
    let v : Whole = whole_by m.settings m.threads.items m.clocks m.shared.lock m.objects.items m.shared.store.value
    m.shared.rows.items in
    let view : v ≡ c.args.self.now = c.self.view_is in
    let inside = inside_of m.threads.items m.clocks v c.args.self.now c.args.i refl view c.requires.inside in
    lives_in m.threads.items c.args.i c.index_mut.result.now phase.Working inside c.index_mut.ensures.value
    (item_in (λ p. p ≡ phase.Working) m.threads.items m.clocks v c.args.self.now c.args.i refl view inside
    c.requires.working) refl

pub returns-clause-count : goal.returns-clause-count
returns-clause-count c =
    let m = c.self.inside in
    let v : Whole = whole_by m.settings m.threads.items m.clocks m.shared.lock m.objects.items m.shared.store.value
    m.shared.rows.items in
    count_kept m.threads.items (set m.threads.items c.args.i c.end.new.self) m.clocks c.end.new.clocks v c.args.self.now
    refl c.self.view_is (length-set m.threads.items c.args.i c.end.new.self)

pub returns-clause-rests : goal.returns-clause-rests
returns-clause-rests c =
    let m = c.self.inside in
    let v : Whole = whole_by m.settings m.threads.items m.clocks m.shared.lock m.objects.items m.shared.store.value
    m.shared.rows.items in
    let view : v ≡ c.args.self.now = c.self.view_is in
    let inside = inside_of m.threads.items m.clocks v c.args.self.now c.args.i refl view c.requires.inside in
    let x = c.index_mut.result.now in
    let item = item_of m.threads.items m.clocks c.args.i x c.end.new.self c.end.new.clocks m.agree inside
    c.index_mut.ensures.value c.end.ensures.others in
    subst (λ (w : Whole). Rests c.end.result w
    (record v { threads = joined (set m.threads.items c.args.i c.end.new.self) c.end.new.clocks })) view
    (ask_rests v m.threads.items m.clocks c.end.new.clocks c.args.i step.End x c.end.new.self (Ok c.end.result) item
    c.end.ensures.event)
