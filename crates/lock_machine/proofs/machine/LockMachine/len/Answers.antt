use Rattle.std.proofs.Common.{◌≡◌, ℕ, ◌≤◌, length, refl, sym, ◌∙◌, subst, rules}
use Rattle.posix_terms.specs.declared.limits.TheConstants.Limits as limit
use Rattle.lock_machine.specs.Whole.{Whole}
use Rattle.lock_machine.proofs.Inside.{length_seen, whole_by}
use Rattle.lock_machine.proofs.machine.LockMachine.len.Goals as goal

pub returns-clause-count : goal.returns-clause-count
returns-clause-count c =
    let m = c.self.inside in
    let v : Whole = whole_by m.settings m.threads.items m.clocks m.shared.lock m.objects.items m.shared.store.value
    m.shared.rows.items in
    let view : v ≡ c.args.self.now = c.self.view_is in
    let size : c.len.result ≡ length m.threads.items = search rules in
    size ∙ length_seen m.threads.items m.clocks v c.args.self.now refl view

pub returns-clause-within_limit : goal.returns-clause-within_limit
returns-clause-within_limit c =
    let m = c.self.inside in
    let size : c.len.result ≡ length m.threads.items = search rules in
    subst (λ (n : ℕ). n ≤ limit.THREADS) (sym size) m.few
