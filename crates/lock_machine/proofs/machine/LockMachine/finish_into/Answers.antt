use Rattle.std.proofs.Common.{◌≡◌, map, sym, ap, ◌∙◌}
use Rattle.lock_machine.specs.Whole.{Whole}
use Rattle.lock_machine.specs.Threads.{Thread}
use Rattle.lock_machine.proofs.Inside.{whole_by}
use Rattle.lock_machine.proofs.Joining.{asked-joined}
use Rattle.lock_machine.proofs.machine.LockMachine.finish_into.Goals as goal

pub returns-clause-asked : goal.returns-clause-asked
returns-clause-asked c =
    let m = c.self.inside in
    let v : Whole = whole_by m.settings m.threads.items m.clocks m.shared.lock m.objects.items m.shared.store.value
    m.shared.rows.items in
    let view : v ≡ c.args.self = c.self.view_is in
    c.new.ensures ∙ sym (asked-joined m.threads.items m.clocks)
    ∙ ap (λ (x : Whole). map (λ (t : Thread). t.asked) x.threads) view
