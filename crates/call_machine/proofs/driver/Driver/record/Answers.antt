use Rattle.std.proofs.Common.{◌≡◌, ◌<◌, ◌≤◌, List, Some, get_or, length, slice_get, refl, sym, ap, ap₂, ◌∙◌, subst}
use Rattle.std.proofs.Common.{rules}
use Rattle.std.proofs.lemmas.Option.{slice_get_past}
use Rattle.std.specs.Prelude.{Ok, None, unwrap_or}
use Rattle.posix_terms.specs.declared.outcome.Given.{Given}
use Rattle.lock_machine.specs.Refusals.{is_outside, outlook, phase_at, recorded_as}
use Rattle.lock_machine.specs.Shows.{RecordsGiven, as_it_comes}
use Rattle.lock_machine.specs.Whole.{thread_at}
use Rattle.lock_machine.specs.declared.outside.Progress.{Progress}
use Rattle.lock_machine.specs.declared.outside.Progress.TheVariants as progress
use Rattle.call_machine.specs.Logs.{Written, logged, logged_as}
use Rattle.call_machine.specs.Playing.{Makes, played_of}
use Rattle.call_machine.proofs.Coming.{outside_phase}
use Rattle.call_machine.proofs.Playing.{awaits_made, records_made}
use Rattle.call_machine.proofs.Recording.{came_taken, little_data, logs_nothing, not_moved, record_is, taken_answers}
use Rattle.call_machine.proofs.Recording.{told_taken}
use Rattle.call_machine.proofs.Seats.{given_in, given_none, got_at}
use Rattle.call_machine.proofs.driver.Driver.record.Goals as goal

pub returns-in_default-clause-event : goal.returns-in_default-clause-event
returns-in_default-clause-event c =
    let d = c.args.self.now in
    let past : length d.outcomes.items ≤ c.args.i = search rules in
    let out = outside_phase (phase_at d.machine c.args.i) c.requires.outside in
    awaits_made c.laws.ensures.events (played_of d) c.args.i out.0 c.requires.inside out.1 (given_none d c.args.i past)

pub returns-in_default-get-clause-event : goal.returns-in_default-get-clause-event
returns-in_default-get-clause-event c =
    let d = c.args.self.now in
    let there : c.args.i < length d.outcomes.items = search rules in
    let own : c.in-Some.outcomes.now ≡ get_or d.outcomes.items c.args.i c.in-Some.outcomes.now = search rules in
    let past : length c.in-Some.outcomes.now ≤ c.came-number.result = search rules in
    let out = outside_phase (phase_at d.machine c.args.i) c.requires.outside in
    awaits_made c.laws.ensures.events (played_of d) c.args.i out.0 c.requires.inside out.1
    (given_in d c.args.i c.came-number.result c.in-Some.outcomes.now None c.came-number.ensures there own
    (slice_get_past c.in-Some.outcomes.now c.came-number.result past))

pub returns-in_default-outlook : goal.returns-in_default-outlook
returns-in_default-outlook c =
    let d = c.args.self.now in
    let p = played_of d in
    let i = c.args.i in
    let there : i < length d.outcomes.items = search rules in
    let own : c.in-Some.outcomes.now ≡ get_or d.outcomes.items i c.in-Some.outcomes.now = search rules in
    let g : Given = c.in-Some-get.given.now in
    let got : slice_get c.in-Some.outcomes.now c.came-number.result ≡ Some g =
    subst (λ (gs : List Given). slice_get gs c.came-number.result ≡ Some g) c.as_slice.ensures
    (got_at c.as_slice.result.now c.came-number.result g c.in-Some-get.ensures.lookup.0
    c.in-Some-get.ensures.lookup.1) in
    let next = given_in d i c.came-number.result c.in-Some.outcomes.now (Some g) c.came-number.ensures there own got in
    let out = outside_phase (phase_at d.machine i) c.requires.outside in
    let made = c.outlook.result in
    let stays = not_moved made c.in_default-outlook.not-Moves in
    let h : RecordsGiven made i g p.whole p.whole = c.outlook.ensures.event c.requires.outside stays in
    let L : Written → Type 0 = λ l. Makes made i p (record p { log = l }) in
    record {
      event = subst L (logs_nothing made
          (logged_as p.whole.settings.version i (thread_at p.whole i).came (as_it_comes p.whole i g)) p.log stays)
          (records_made c.laws.ensures.events p i p.whole out.0 g made c.requires.inside out.1 next h);
      count = refl;
    }

pub append-requires : goal.append-requires
append-requires c =
    let d = c.args.self.now in
    let i = c.args.i in
    let g : Given = c.in-Some-get.given.now in
    let out = outside_phase (phase_at d.machine i) c.requires.outside in
    let moves : outlook d.machine i g ≡ progress.Moves = sym c.outlook.ensures.value ∙ c.in-Moves.is in
    let (turn, answers) = taken_answers d.machine i out.0 g out.1 moves in
    little_data out.0.errand turn g c.in_ok-try_clone.field-0 answers c.in_ok-try_clone.ensures

pub returns-clause-event : goal.returns-clause-event
returns-clause-event c =
    let d = c.args.self.now in
    let p = played_of d in
    let i = c.args.i in
    let w = c.record.new.self in
    let there : i < length d.outcomes.items = search rules in
    let own : c.in-Some.outcomes.now ≡ get_or d.outcomes.items i c.in-Some.outcomes.now = search rules in
    let g : Given = c.in-Some-get.given.now in
    let got : slice_get c.in-Some.outcomes.now c.came-number.result ≡ Some g =
    subst (λ (gs : List Given). slice_get gs c.came-number.result ≡ Some g) c.as_slice.ensures
    (got_at c.as_slice.result.now c.came-number.result g c.in-Some-get.ensures.lookup.0
    c.in-Some-get.ensures.lookup.1) in
    let next = given_in d i c.came-number.result c.in-Some.outcomes.now (Some g) c.came-number.ensures there own got in
    let out = outside_phase (phase_at d.machine i) c.requires.outside in
    let copy : Given = record { kind = g.kind; clock = g.clock; outcome = c.in_ok-try_clone.field-0 } in
    let same : copy ≡ g = λ k. record { kind = g.kind; clock = g.clock; outcome = c.in_ok-try_clone.ensures k } in
    let moves : outlook d.machine i g ≡ progress.Moves = sym c.outlook.ensures.value ∙ c.in-Moves.is in
    let taken : c.record.result ≡ Ok progress.Moves = c.record.ensures.value
    ∙ ap₂ recorded_as c.requires.outside (ap (outlook d.machine i) same ∙ moves) in
    let event : RecordsGiven progress.Moves i copy p.whole w =
    came_taken (is_outside (phase_at p.whole i)) c.record.result progress.Moves p.whole w
    (λ y. RecordsGiven (unwrap_or y progress.Stays) i copy p.whole w) taken c.record.ensures.event in
    let h = subst (λ (x : Given). RecordsGiven progress.Moves i x p.whole w) same event in
    let log : c.append.new.self ≡ logged p.log
    (logged_as p.whole.settings.version i (thread_at p.whole i).came (as_it_comes p.whole i g)) =
    c.in_ok-append.ensures
    ∙ ap (logged p.log) (record_is p.whole i out.0 g c.in_ok-try_clone.field-0 c.came-number.result
    c.logged_clock.result out.1 moves c.in_ok-try_clone.ensures c.came-number.ensures c.logged_clock.ensures) in
    let made : c.unwrap_or.result ≡ progress.Moves = c.unwrap_or.ensures
    ∙ ap (λ y. unwrap_or y progress.Stays)
    (told_taken c.record.result c.in_ok-made.made progress.Moves taken c.in_ok-made.ensures) in
    let Q : Progress → Type 0 = λ m. Makes m i p (record p { whole = w; log = c.append.new.self }) in
    let L : Written → Type 0 = λ l. Makes progress.Moves i p (record p { whole = w; log = l }) in
    subst Q (sym made) (subst L (sym log)
    (records_made c.laws.ensures.events p i w out.0 g progress.Moves c.requires.inside out.1 next h))
