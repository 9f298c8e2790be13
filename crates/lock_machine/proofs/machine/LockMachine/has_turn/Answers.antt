use Rattle.std.proofs.Common.{◌≡◌, ℕ, List, Option, refl, ap, ◌∙◌, rules}
use Rattle.logical_clocks.specs.ThreadClocks.{live_clocks}
use Rattle.logical_clocks.specs.TurnOrder.{has_turn}
use Rattle.lock_machine.specs.Whole.{Whole}
use Rattle.lock_machine.proofs.Inside.{clock_inside, clocks_seen, inside_of, whole_by}
use Rattle.lock_machine.proofs.machine.LockMachine.has_turn.Goals as goal

pub is_turn-requires : goal.is_turn-requires
is_turn-requires c =
    let m = c.self.inside in
    let v : Whole = whole_by m.settings m.threads.items m.clocks m.shared.lock m.objects.items m.shared.store.value
    m.shared.rows.items in
    let view : v ≡ c.args.self.now = c.self.view_is in
    clock_inside m.threads.items m.clocks c.args.i m.agree
    (inside_of m.threads.items m.clocks v c.args.self.now c.args.i refl view c.requires)

pub returns : goal.returns
returns c =
    let m = c.self.inside in
    let v : Whole = whole_by m.settings m.threads.items m.clocks m.shared.lock m.objects.items m.shared.store.value
    m.shared.rows.items in
    let view : v ≡ c.args.self.now = c.self.view_is in
    let own : c.is_turn.result ≡ has_turn (live_clocks m.clocks) c.args.i = search rules in
    own ∙ ap (λ (l : List (Option ℕ)). has_turn l c.args.i)
    (clocks_seen m.threads.items m.clocks v c.args.self.now m.agree refl view)
