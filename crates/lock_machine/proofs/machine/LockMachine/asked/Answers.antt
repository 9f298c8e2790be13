use Rattle.std.proofs.Common.{◌≡◌, ◌∙◌, ℕ, ◌<◌, length, sym, refl, ap, subst, rules}
use Rattle.lock_machine.specs.Whole.{Whole}
use Rattle.lock_machine.specs.Threads.{Thread}
use Rattle.lock_machine.proofs.Inside.{inside_of, thread_seen, whole_by}
use Rattle.lock_machine.proofs.machine.LockMachine.asked.Goals as goal

pub index-requires : goal.index-requires
index-requires c =
    let m = c.self.inside in
    let v : Whole = whole_by m.settings m.threads.items m.clocks m.shared.lock m.objects.items m.shared.store.value
    m.shared.rows.items in
    let view : v ≡ c.args.self.now = c.self.view_is in
    let inside = inside_of m.threads.items m.clocks v c.args.self.now c.args.i refl view c.requires in
    let size : m.threads.len ≡ length m.threads.items = search rules in
    subst (λ (n : ℕ). c.args.i < n) (sym size) inside

pub returns : goal.returns
returns c =
    let m = c.self.inside in
    let v : Whole = whole_by m.settings m.threads.items m.clocks m.shared.lock m.objects.items m.shared.store.value
    m.shared.rows.items in
    let view : v ≡ c.args.self.now = c.self.view_is in
    let inside = inside_of m.threads.items m.clocks v c.args.self.now c.args.i refl view c.requires in
    let own : c.as_slice.result.now ≡ c.index.result.now.asked = search rules in
    own ∙ sym (ap (λ (t : Thread). t.asked)
    (thread_seen m.threads.items m.clocks v c.args.self.now c.args.i c.index.result.now refl view inside
    c.index.ensures))
