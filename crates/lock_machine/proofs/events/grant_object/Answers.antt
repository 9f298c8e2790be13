use Rattle.std.proofs.Common.{Ok, ◌≡◌, Option, Some, ap, subst, rules}
use Rattle.call_turns.specs.declared.patience.Locking.{Locking}
use Rattle.lock_machine.proofs.Wanting.{waits_decided, wanted_some}
use Rattle.lock_machine.specs.Wanted.{IsWanted, wanted_call}
use Rattle.lock_machine.specs.declared.thread.Phase.{Phase}
use Rattle.lock_machine.specs.Events.{parts}
use Rattle.lock_machine.specs.Threads.{timed}
use Rattle.lock_machine.specs.declared.thread.Phase.TheVariants as phase
use Rattle.lock_machine.proofs.Granting.{granted_object}
use Rattle.lock_machine.proofs.events.grant_object.Goals as goal

pub returns-in-Some-clause-event : goal.returns-in-Some-clause-event
returns-in-Some-clause-event c =
    let shared = c.args.shared.now in
    let want = c.in-WantsObject in
    let is : c.args.thread.now.phase ≡ phase.WantsObject want.call want.carried want.clock want.object = search rules in
    granted_object c.args.patience (Ok tt) c.args.thread.now.phase c.replace.new.dest c.args.i want.call want.carried
    want.clock want.object
    (λ clock. parts (timed c.args.thread.now clock) shared.lock shared.store.value shared.rows.items)
    (λ clock. parts (timed c.grant.new.thread clock) c.grant.new.shared.lock c.grant.new.shared.store.value
    c.grant.new.shared.rows.items)
    is c.grant.ensures.event

pub unreachable-requires : goal.unreachable-requires
unreachable-requires c =
    let want = c.in-WantsObject in
    let shared = c.args.shared.now in
    let is : c.args.thread.now.phase ≡ phase.WantsObject want.call want.carried want.clock want.object = search rules in
    let its : wanted_call c.args.thread.now.phase shared.rows.items ≡ Some (want.call, want.carried.moved) =
    ap (λ (p : Phase). wanted_call p shared.rows.items) is in
    wanted_some shared.store.value want.call want.carried.moved
    (subst (λ (w : Option Locking). IsWanted shared.store.value (want.call, want.carried.moved) w)
    c.in_default-wanted.is (c.requires.decided (want.call, want.carried.moved) its))

pub grant-requires-clause-decided : goal.grant-requires-clause-decided
grant-requires-clause-decided c =
    let want = c.in-WantsObject in
    let shared = c.args.shared.now in
    let is : c.args.thread.now.phase ≡ phase.WantsObject want.call want.carried want.clock want.object = search rules in
    let its : wanted_call c.args.thread.now.phase shared.rows.items ≡ Some (want.call, want.carried.moved) =
    ap (λ (p : Phase). wanted_call p shared.rows.items) is in
    waits_decided shared.store.value c.in-Some.locking want.call want.carried.moved
    (subst (λ (w : Option Locking). IsWanted shared.store.value (want.call, want.carried.moved) w) c.in-Some.is
    (c.requires.decided (want.call, want.carried.moved) its))
