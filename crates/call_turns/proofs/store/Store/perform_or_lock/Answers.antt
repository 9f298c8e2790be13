use Rattle.std.proofs.Common.{◌≡◌, Err, ◌∙◌, sym, arith}
use Rattle.sequential_object.specs.Decided.{decided}
use Rattle.descriptor_table.specs.View.{view}
use Rattle.call_turns.specs.Store.{Stored}
use Rattle.call_turns.proofs.Making.{refuses}
use Rattle.call_turns.proofs.store.Store.perform_or_lock.Goals as goal

pub returns-in-Err-clause-comes : goal.returns-in-Err-clause-comes
returns-in-Err-clause-comes c =
    let h : Stored = record { table = c.self.inside.table; bodies = c.self.inside.bodies.items } in
    let is : decided (view h.table) c.args.call.now c.args.carried.moved ≡ Err c.in-Err.error =
    sym c.decide.ensures.decided ∙ c.in-Err.is in
    let refused = refuses c.table_follows_step.ensures.follows h c.args.call.now c.args.carried c.in-Err.error is in
    rw (← c.self.view_is) (refused.0, refused.1, omega arith)
