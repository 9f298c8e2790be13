use Rattle.std.proofs.Common.{◌≡◌, ℕ, ◌<◌, Option, length, sym, refl, ap, ◌∙◌, subst, rules}
use Rattle.lock_machine.specs.Whole.{Whole}
use Rattle.std.specs.Prelude.{IfSome, Some, None}
use Rattle.logical_clocks.specs.ThreadClocks.{live_clocks}
use Rattle.logical_clocks.specs.TurnOrder.{turn_holder}
use Rattle.lock_machine.proofs.EventShows.{holder_inside}
use Rattle.lock_machine.proofs.Inside.{clocks_seen, length_seen, whole_by}
use Rattle.lock_machine.proofs.machine.LockMachine.turn_holder.Goals as goal

pub returns-clause-holder : goal.returns-clause-holder
returns-clause-holder c =
    let m = c.self.inside in
    let v : Whole = whole_by m.settings m.threads.items m.clocks m.shared.lock m.objects.items m.shared.store.value
    m.shared.rows.items in
    let view : v ≡ c.args.self.now = c.self.view_is in
    let own : c.turn_holder.result ≡ turn_holder (live_clocks m.clocks) = search rules in
    own ∙ ap turn_holder (clocks_seen m.threads.items m.clocks v c.args.self.now m.agree refl view)

pub returns-clause-inside : goal.returns-clause-inside
returns-clause-inside c =
    let m = c.self.inside in
    let v : Whole = whole_by m.settings m.threads.items m.clocks m.shared.lock m.objects.items m.shared.store.value
    m.shared.rows.items in
    let view : v ≡ c.args.self.now = c.self.view_is in
    let own : c.turn_holder.result ≡ turn_holder (live_clocks m.clocks) = search rules in
    by_holder c.turn_holder.result (sym own)
  where
    by_holder : (o : Option ℕ) → turn_holder (live_clocks c.self.inside.clocks) ≡ o
        → IfSome o (λ i. i < length c.args.self.now.threads)
    by_holder None h = tt
    by_holder (Some i) h =
        let m = c.self.inside in
        let v : Whole = whole_by m.settings m.threads.items m.clocks m.shared.lock m.objects.items m.shared.store.value
        m.shared.rows.items in
        subst (λ (n : ℕ). i < n) (length_seen m.threads.items m.clocks v c.args.self.now refl c.self.view_is)
        (holder_inside m.threads.items m.clocks i m.agree h)
