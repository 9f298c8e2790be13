use Rattle.std.proofs.Common.{◌≡◌, ◌∙◌, sym, refl, ap}
use Rattle.lock_machine.specs.Whole.{Whole, thread_at}
use Rattle.lock_machine.specs.Threads.{Thread}
use Rattle.lock_machine.proofs.Inside.{clock_inside, inside_of, whole_by}
use Rattle.lock_machine.proofs.Joining.{get-joined}
use Rattle.lock_machine.proofs.machine.LockMachine.clock.Goals as goal

pub clock-requires : goal.clock-requires
clock-requires c =
    let m = c.self.inside in
    let v : Whole = whole_by m.settings m.threads.items m.clocks m.shared.lock m.objects.items m.shared.store.value
    m.shared.rows.items in
    let view : v ≡ c.args.self.now = c.self.view_is in
    clock_inside m.threads.items m.clocks c.args.i m.agree
    (inside_of m.threads.items m.clocks v c.args.self.now c.args.i refl view c.requires)

pub returns : goal.returns
returns c =
    let m = c.self.inside in
    let v : Whole = whole_by m.settings m.threads.items m.clocks m.shared.lock m.objects.items m.shared.store.value
    m.shared.rows.items in
    let view : v ≡ c.args.self.now = c.self.view_is in
    let inside = inside_of m.threads.items m.clocks v c.args.self.now c.args.i refl view c.requires in
    c.clock.ensures.value
    ∙ sym (ap (λ (t : Thread). t.clock) (get-joined m.threads.items m.clocks c.args.i inside))
    ∙ ap (λ (w : Whole). (thread_at w c.args.i).clock) view
