use Rattle.std.proofs.Common.{◌≡◌, ◌+◌, List, Some, true, refl, ap, ◌∙◌, length, rules}
use Rattle.std.proofs.Math.ListN.{set}
use Rattle.std.proofs.lemmas.List.{get_or-set_same}
use Rattle.std.proofs.lemmas.Option.{slice_get_read}
use Rattle.std.specs.Prelude.{slice_get}
use Rattle.det_mutex.specs.Attempt.{freed}
use Rattle.lock_model.specs.Machine.{is_number}
use Rattle.logical_clocks.specs.ThreadClocks.{clock_at, no_thread, with_clock}
use Rattle.logical_clocks.specs.declared.clocks.ThreadClock.{ThreadClock}
use Rattle.lock_machine.specs.Events.{Parts, in_time, parts}
use Rattle.lock_machine.specs.Held.{end_held, phase_behind, told_as}
use Rattle.lock_machine.specs.Threads.{timed}
use Rattle.lock_machine.proofs.Parting.{answers_made}
use Rattle.lock_machine.proofs.events.answer.Goals as goal

pub returns-clause-event : goal.returns-clause-event
returns-clause-event c table =
    let start = clock_at c.args.clocks.now c.args.i in
    let rows = c.args.rows.now in
    let old : Parts = parts (timed c.args.thread.now start) c.args.lock.now table rows.items in
    let q = c.in-Some.row.now in
    let held : is_number c.args.lock.now.holder c.args.i ≡ true = search rules in
    let room : in_time old 1 ≡ true = search rules in
    let size : rows.len ≡ length rows.items = search rules in
    let there : slice_get rows.items c.args.row ≡ Some q = slice_get_read rows.items rows.len c.args.row q size
    (c.in-Some.ensures.variant.0 refl) c.in-Some.ensures.value in
    let e = c.in-Granted.ends in
    let ends : end_held c.args.thread.now.phase ≡ Some e = search rules in
    let clocks : c.add.new.self ≡ with_clock c.args.clocks.now c.args.i (start + 1) = search rules in
    let at : clock_at c.add.new.self c.args.i ≡ start + 1 =
    ap (λ (cs : List ThreadClock). clock_at cs c.args.i) clocks
    ∙ ap (λ (x : ThreadClock). x.clock) (get_or-set_same c.args.clocks.now c.args.i _ no_thread c.requires.inside)
    in
    let lock : c.free.new.self ≡ freed start = c.free.ensures ∙ ap freed c.clock-clock.ensures.value in
    let told : Some c.told_as.result ≡ Some (told_as e) = search rules in
    let behind : c.phase_behind-behind.result ≡ phase_behind e = c.phase_behind-behind.ensures.phase in
    let row : c.answer.new.self ≡ record q { answer = Some (told_as e) } =
    c.answer.ensures ∙ ap (λ a. record q { answer = Some a }) c.answer_copied.ensures in
    answers_made c.args.i c.args.row (Some c.told_as.result) old _ e q held room ends there told
    (λ k. record {
      thread = record (timed c.args.thread.now (at k)) { phase = behind k };
      lock = lock k;
      table = table;
      rows = set rows.items c.args.row (row k);
    })
