use Rattle.lock_machine.specs.Threads.{joined}
use Rattle.std.proofs.lemmas.List.{length-set}
use Rattle.lock_machine.specs.Views.{item_at}
use Rattle.lock_machine.specs.declared.thread.Thread as declared
use Rattle.lock_machine.proofs.Inside.{inside_of, item_in, whole_by, clock_inside, count_kept, granted_lives, phase_in}
use Rattle.lock_machine.specs.Whole.{Whole}
use Rattle.lock_machine.specs.Refusals.{Rests}
use Rattle.lock_machine.specs.Shows.{GrantedIn, Tells}
use Rattle.std.proofs.Common.{◌≡◌, ℕ, ◌≤◌, Option, Some, None, is_some, length, get_or, refl, subst, rules, ◌<◌, set}
use Rattle.std.proofs.Common.{sym}
use Rattle.lock_machine.proofs.EventShows.{answer_done, answer_none, granted_at, item_agrees, item_of}
use Rattle.det_mutex.specs.Attempt.{new_lock}
use Rattle.lock_machine.proofs.Resting.{answer_rests}
use Rattle.lock_machine.proofs.Bearing.{born_still}
use Rattle.lock_machine.proofs.RowRoom.{room_kept}
use Rattle.lock_machine.proofs.Bearing.{few_kept}
use Rattle.lock_machine.proofs.Wanting.{waits_still}
use Rattle.lock_machine.proofs.machine.LockMachine.answer_granted.Goals as goal

pub invariant_of-self-inside : goal.invariant_of-self-inside
invariant_of-self-inside c =
    let m = c.self.inside in
    let v : Whole = whole_by m.settings m.threads.items m.clocks m.shared.lock m.objects.items m.shared.store.value
    m.shared.rows.items in
    let view : v ≡ c.args.self.now = c.self.view_is in
    let inside = inside_of m.threads.items m.clocks v c.args.self.now c.args.i refl view c.requires.inside in
    let item = item_of m.threads.items m.clocks c.args.i c.index_mut.result.now c.answer.new.thread c.answer.new.clocks
    m.agree inside c.index_mut.ensures.value c.answer.ensures.others in (
      item_agrees m.threads.items m.clocks c.args.i c.index_mut.result.now c.answer.new.thread c.answer.new.clocks
          m.agree item,
      (
        few_kept m.threads.items c.args.i c.answer.new.thread m.few,
        (
          born_still m.clocks c.answer.new.clocks c.args.i c.index_mut.result.now c.answer.new.thread
              m.shared.store.value
              (clock_inside m.threads.items m.clocks c.args.i m.agree inside) c.answer.ensures.others m.births,
          (
            room_kept m.threads.items c.args.i c.index_mut.result.now c.answer.new.thread m.shared.rows
                c.answer.new.rows inside c.index_mut.ensures.value c.answer.ensures.room m.room,
            (
              waits_still m.threads.items c.args.i c.index_mut.result.now c.answer.new.thread m.shared.lock
                  c.answer.new.lock m.shared.rows.items c.answer.new.rows.items m.shared.store.value m.shared.wanted
                  inside
                  c.index_mut.ensures.value c.answer.ensures.brings c.answer.ensures.calls c.answer.ensures.holders
                  m.wanted,
              tt,
            ),
          ),
        ),
      ),
    )

pub invariant_of-self-inside-in-Some : goal.invariant_of-self-inside-in-Some
invariant_of-self-inside-in-Some c =
    let m = c.self.inside in
    let v : Whole = whole_by m.settings m.threads.items m.clocks m.shared.lock m.objects.items m.shared.store.value
    m.shared.rows.items in
    let view : v ≡ c.args.self.now = c.self.view_is in
    let inside = inside_of m.threads.items m.clocks v c.args.self.now c.args.i refl view c.requires.inside in
    let item = item_of m.threads.items m.clocks c.args.i c.index_mut-in-Some.result.now c.answer-in-Some.new.thread
    c.answer-in-Some.new.clocks m.agree inside c.index_mut-in-Some.ensures.value c.answer-in-Some.ensures.others
    in (
      item_agrees m.threads.items m.clocks c.args.i c.index_mut-in-Some.result.now c.answer-in-Some.new.thread
          c.answer-in-Some.new.clocks m.agree item,
      (
        few_kept m.threads.items c.args.i c.answer-in-Some.new.thread m.few,
        (
          born_still m.clocks c.answer-in-Some.new.clocks c.args.i c.index_mut-in-Some.result.now
              c.answer-in-Some.new.thread m.shared.store.value
              (clock_inside m.threads.items m.clocks c.args.i m.agree inside) c.answer-in-Some.ensures.others m.births,
          (
            room_kept m.threads.items c.args.i c.index_mut-in-Some.result.now c.answer-in-Some.new.thread m.shared.rows
                c.answer-in-Some.new.rows inside c.index_mut-in-Some.ensures.value c.answer-in-Some.ensures.room m.room,
            (
              waits_still m.threads.items c.args.i c.index_mut-in-Some.result.now c.answer-in-Some.new.thread
                  m.shared.lock m.shared.lock m.shared.rows.items c.answer-in-Some.new.rows.items m.shared.store.value
                  m.shared.wanted inside c.index_mut-in-Some.ensures.value c.answer-in-Some.ensures.brings
                  c.answer-in-Some.ensures.calls (λ k held. held) m.wanted,
              tt,
            ),
          ),
        ),
      ),
    )

pub returns-in-None-clause-event : goal.returns-in-None-clause-event
returns-in-None-clause-event c =
    let m = c.self.inside in
    let v : Whole = whole_by m.settings m.threads.items m.clocks m.shared.lock m.objects.items m.shared.store.value
    m.shared.rows.items in
    let view : v ≡ c.args.self.now = c.self.view_is in
    let inside = inside_of m.threads.items m.clocks v c.args.self.now c.args.i refl view c.requires.inside in
    let x = c.index_mut.result.now in
    let P : Option ℕ → Type 0 = λ o. GrantedIn (let t : declared.Thread = item_at m.threads.items c.args.i in t.phase)
    c.args.row o in
    let item = item_of m.threads.items m.clocks c.args.i x c.answer.new.thread c.answer.new.clocks m.agree inside
    c.index_mut.ensures.value c.answer.ensures.others in
    subst (λ (w : Whole). Tells c.answer.result c.args.i w
    (record v {
      threads = joined (set m.threads.items c.args.i c.answer.new.thread) c.answer.new.clocks;
      lock = c.answer.new.lock;
      rows = c.answer.new.rows.items;
    })) view
    (answer_done c.arising_states.ensures.locks c.arising_states.ensures.rows v m.threads.items m.clocks
    c.answer.new.clocks c.answer.new.rows.items c.args.i c.args.row None x c.answer.new.thread m.shared.lock
    c.answer.new.lock c.answer.result item
    (granted_at m.threads.items c.args.i c.args.row None x inside c.index_mut.ensures.value
    (subst P c.in-None.is (item_in (λ p. GrantedIn p c.args.row c.args.object) m.threads.items m.clocks v
    c.args.self.now c.args.i refl view inside c.requires.granted))) refl c.answer.ensures.event)

pub returns-in-Some-get_mut-clause-event : goal.returns-in-Some-get_mut-clause-event
returns-in-Some-get_mut-clause-event c =
    let m = c.self.inside in
    let v : Whole = whole_by m.settings m.threads.items m.clocks m.shared.lock m.objects.items m.shared.store.value
    m.shared.rows.items in
    let view : v ≡ c.args.self.now = c.self.view_is in
    let inside = inside_of m.threads.items m.clocks v c.args.self.now c.args.i refl view c.requires.inside in
    let x = c.index_mut-in-Some.result.now in
    let n = c.in-Some.object in
    let P : Option ℕ → Type 0 = λ o. GrantedIn (let t : declared.Thread = item_at m.threads.items c.args.i in t.phase)
    c.args.row o in
    let own : c.in-Some-get_mut.lock.now ≡ get_or m.objects.items n new_lock = search rules in
    let item = item_of m.threads.items m.clocks c.args.i x c.answer-in-Some.new.thread c.answer-in-Some.new.clocks
    m.agree inside c.index_mut-in-Some.ensures.value c.answer-in-Some.ensures.others in
    subst (λ (w : Whole). Tells c.answer-in-Some.result c.args.i w
    (record v {
      threads = joined (set m.threads.items c.args.i c.answer-in-Some.new.thread)
          c.answer-in-Some.new.clocks;
      objects = set m.objects.items n c.answer-in-Some.new.lock;
      rows = c.answer-in-Some.new.rows.items;
    })) view
    (answer_done c.arising_states.ensures.locks c.arising_states.ensures.rows v m.threads.items m.clocks
    c.answer-in-Some.new.clocks c.answer-in-Some.new.rows.items c.args.i c.args.row (Some n) x
    c.answer-in-Some.new.thread c.in-Some-get_mut.lock.now c.answer-in-Some.new.lock c.answer-in-Some.result item
    (granted_at m.threads.items c.args.i c.args.row (Some n) x inside c.index_mut-in-Some.ensures.value
    (subst P c.in-Some.is (item_in (λ p. GrantedIn p c.args.row c.args.object) m.threads.items m.clocks v
    c.args.self.now c.args.i refl view inside c.requires.granted))) own c.answer-in-Some.ensures.event)

pub returns-in_default-clause-event : goal.returns-in_default-clause-event
returns-in_default-clause-event c =
    let m = c.self.inside in
    let v : Whole = whole_by m.settings m.threads.items m.clocks m.shared.lock m.objects.items m.shared.store.value
    m.shared.rows.items in
    let view : v ≡ c.args.self.now = c.self.view_is in
    let inside = inside_of m.threads.items m.clocks v c.args.self.now c.args.i refl view c.requires.inside in
    let past : length m.objects.items ≤ c.in-Some.object = search rules in
    let P : Option ℕ → Type 0 = λ o. GrantedIn (let t : declared.Thread = item_at m.threads.items c.args.i in t.phase)
    c.args.row o in
    subst (λ (w : Whole). Tells None c.args.i w v) view
    (answer_none v m.threads.items m.clocks c.args.i c.args.row c.in-Some.object inside
    (subst P c.in-Some.is (item_in (λ p. GrantedIn p c.args.row c.args.object) m.threads.items m.clocks v
    c.args.self.now c.args.i refl view inside c.requires.granted)) past)

pub index_mut-requires : goal.index_mut-requires
index_mut-requires c =
    let m = c.self.inside in
    let v : Whole = whole_by m.settings m.threads.items m.clocks m.shared.lock m.objects.items m.shared.store.value
    m.shared.rows.items in
    let view : v ≡ c.args.self.now = c.self.view_is in
    let inside = inside_of m.threads.items m.clocks v c.args.self.now c.args.i refl view c.requires.inside in
    let size : m.threads.len ≡ length m.threads.items = search rules in
    subst (λ (n : ℕ). c.args.i < n) (sym size) inside

pub index_mut-requires-in-Some : goal.index_mut-requires-in-Some
index_mut-requires-in-Some c =
    let m = c.self.inside in
    let v : Whole = whole_by m.settings m.threads.items m.clocks m.shared.lock m.objects.items m.shared.store.value
    m.shared.rows.items in
    let view : v ≡ c.args.self.now = c.self.view_is in
    let inside = inside_of m.threads.items m.clocks v c.args.self.now c.args.i refl view c.requires.inside in
    let size : m.threads.len ≡ length m.threads.items = search rules in
    subst (λ (n : ℕ). c.args.i < n) (sym size) inside

pub answer-requires-clause-inside : goal.answer-requires-clause-inside
answer-requires-clause-inside c =
    let m = c.self.inside in
    let v : Whole = whole_by m.settings m.threads.items m.clocks m.shared.lock m.objects.items m.shared.store.value
    m.shared.rows.items in
    let view : v ≡ c.args.self.now = c.self.view_is in
    let inside = inside_of m.threads.items m.clocks v c.args.self.now c.args.i refl view c.requires.inside in
    clock_inside m.threads.items m.clocks c.args.i m.agree inside

pub answer-requires-in-Some-clause-inside : goal.answer-requires-in-Some-clause-inside
answer-requires-in-Some-clause-inside c =
    let m = c.self.inside in
    let v : Whole = whole_by m.settings m.threads.items m.clocks m.shared.lock m.objects.items m.shared.store.value
    m.shared.rows.items in
    let view : v ≡ c.args.self.now = c.self.view_is in
    let inside = inside_of m.threads.items m.clocks v c.args.self.now c.args.i refl view c.requires.inside in
    clock_inside m.threads.items m.clocks c.args.i m.agree inside

pub answer-requires-clause-live : goal.answer-requires-clause-live
answer-requires-clause-live c =
    let m = c.self.inside in
    let v : Whole = whole_by m.settings m.threads.items m.clocks m.shared.lock m.objects.items m.shared.store.value
    m.shared.rows.items in
    let view : v ≡ c.args.self.now = c.self.view_is in
    let inside = inside_of m.threads.items m.clocks v c.args.self.now c.args.i refl view c.requires.inside in
    let granted = item_in (λ p. GrantedIn p c.args.row c.args.object) m.threads.items m.clocks v c.args.self.now
    c.args.i refl view inside c.requires.granted in
    let own = phase_in (λ p. GrantedIn p c.args.row c.args.object) m.threads.items c.args.i c.index_mut.result.now
    inside c.index_mut.ensures.value granted in
    granted_lives _ c.args.row c.args.object own

pub answer-requires-in-Some-clause-live : goal.answer-requires-in-Some-clause-live
answer-requires-in-Some-clause-live c =
    let m = c.self.inside in
    let v : Whole = whole_by m.settings m.threads.items m.clocks m.shared.lock m.objects.items m.shared.store.value
    m.shared.rows.items in
    let view : v ≡ c.args.self.now = c.self.view_is in
    let inside = inside_of m.threads.items m.clocks v c.args.self.now c.args.i refl view c.requires.inside in
    let granted = item_in (λ p. GrantedIn p c.args.row c.args.object) m.threads.items m.clocks v c.args.self.now
    c.args.i refl view inside c.requires.granted in
    let own = phase_in (λ p. GrantedIn p c.args.row c.args.object) m.threads.items c.args.i
    c.index_mut-in-Some.result.now inside c.index_mut-in-Some.ensures.value granted in
    granted_lives _ c.args.row c.args.object own

pub returns-in-None-clause-count : goal.returns-in-None-clause-count
returns-in-None-clause-count c =
    let m = c.self.inside in
    let v : Whole = whole_by m.settings m.threads.items m.clocks m.shared.lock m.objects.items m.shared.store.value
    m.shared.rows.items in
    let view : v ≡ c.args.self.now = c.self.view_is in
    let inside = inside_of m.threads.items m.clocks v c.args.self.now c.args.i refl view c.requires.inside in
    count_kept m.threads.items (set m.threads.items c.args.i c.answer.new.thread) m.clocks c.answer.new.clocks v
    c.args.self.now refl view (length-set m.threads.items c.args.i c.answer.new.thread)

pub returns-in-Some-get_mut-clause-count : goal.returns-in-Some-get_mut-clause-count
returns-in-Some-get_mut-clause-count c =
    let m = c.self.inside in
    let v : Whole = whole_by m.settings m.threads.items m.clocks m.shared.lock m.objects.items m.shared.store.value
    m.shared.rows.items in
    let view : v ≡ c.args.self.now = c.self.view_is in
    let inside = inside_of m.threads.items m.clocks v c.args.self.now c.args.i refl view c.requires.inside in
    count_kept m.threads.items (set m.threads.items c.args.i c.answer-in-Some.new.thread) m.clocks
    c.answer-in-Some.new.clocks v c.args.self.now refl view
    (length-set m.threads.items c.args.i c.answer-in-Some.new.thread)

pub returns-in-None-clause-rests : goal.returns-in-None-clause-rests
returns-in-None-clause-rests c =
    let m = c.self.inside in
    let v : Whole = whole_by m.settings m.threads.items m.clocks m.shared.lock m.objects.items m.shared.store.value
    m.shared.rows.items in
    let view : v ≡ c.args.self.now = c.self.view_is in
    let inside = inside_of m.threads.items m.clocks v c.args.self.now c.args.i refl view c.requires.inside in
    let x = c.index_mut.result.now in
    let item = item_of m.threads.items m.clocks c.args.i x c.answer.new.thread c.answer.new.clocks m.agree inside
    c.index_mut.ensures.value c.answer.ensures.others in
    subst (λ (w : Whole). Rests (is_some c.answer.result) w
    (record v {
      threads = joined (set m.threads.items c.args.i c.answer.new.thread) c.answer.new.clocks;
      lock = c.answer.new.lock;
      rows = c.answer.new.rows.items;
    })) view
    (answer_rests v m.threads.items m.clocks c.answer.new.clocks c.answer.new.rows.items c.args.i c.args.row None x
    c.answer.new.thread m.shared.lock c.answer.new.lock c.answer.result item refl c.answer.ensures.event)

pub returns-in-Some-get_mut-clause-rests : goal.returns-in-Some-get_mut-clause-rests
returns-in-Some-get_mut-clause-rests c =
    let m = c.self.inside in
    let v : Whole = whole_by m.settings m.threads.items m.clocks m.shared.lock m.objects.items m.shared.store.value
    m.shared.rows.items in
    let view : v ≡ c.args.self.now = c.self.view_is in
    let inside = inside_of m.threads.items m.clocks v c.args.self.now c.args.i refl view c.requires.inside in
    let x = c.index_mut-in-Some.result.now in
    let n = c.in-Some.object in
    let own : c.in-Some-get_mut.lock.now ≡ get_or m.objects.items n new_lock = search rules in
    let item = item_of m.threads.items m.clocks c.args.i x c.answer-in-Some.new.thread c.answer-in-Some.new.clocks
    m.agree inside c.index_mut-in-Some.ensures.value c.answer-in-Some.ensures.others in
    subst (λ (w : Whole). Rests (is_some c.answer-in-Some.result) w
    (record v {
      threads = joined (set m.threads.items c.args.i c.answer-in-Some.new.thread)
          c.answer-in-Some.new.clocks;
      objects = set m.objects.items n c.answer-in-Some.new.lock;
      rows = c.answer-in-Some.new.rows.items;
    })) view
    (answer_rests v m.threads.items m.clocks c.answer-in-Some.new.clocks c.answer-in-Some.new.rows.items c.args.i
    c.args.row (Some n) x c.answer-in-Some.new.thread c.in-Some-get_mut.lock.now c.answer-in-Some.new.lock
    c.answer-in-Some.result item own c.answer-in-Some.ensures.event)
