use Rattle.std.proofs.Common.{◌≡◌, inl, arith, length, Some, false, w64, to_z, of_z, refl, ap, subst, rules}
use Rattle.std.specs.Prelude.{pos}
use Rattle.posix_terms.specs.declared.limits.TheConstants.Limits as limit
use Rattle.posix_terms.specs.declared.outcome.Outcome.TheVariants as outcome
use Rattle.posix_terms.specs.declared.reply.Reply.TheVariants as reply
use Rattle.posix_terms.specs.declared.errno.Errno.TheVariants.{EIO}
use Rattle.sequential_object.specs.Object.{State}
use Rattle.sequential_object.specs.declared.turn_end.TurnEnd.TheVariants as end
use Rattle.file_descriptions.specs.Descriptions.{AreSound}
use Rattle.sequential_object.specs.Changes.{door_opened}
use Rattle.sequential_object.specs.Renaming.{new_by}
use Rattle.sequential_object.specs.So.{CanDo}
use Rattle.sequential_object.specs.declared.decision.Deed.{Deed}
use Rattle.sequential_object.specs.declared.decision.Deed.TheVariants as deed
use Rattle.descriptor_table.specs.Plans.{errand_of}
use Rattle.descriptor_table.specs.Table.{IsSound, TableState, free_object}
use Rattle.descriptor_table.specs.Agreement.{NumbersStay}
use Rattle.descriptor_table.specs.Shows.{Shows}
use Rattle.descriptor_table.specs.View.{names_of, view}
use Rattle.descriptor_table.specs.declared.plan.Errand.{Errand}
use Rattle.call_turns.specs.Patience.{EndsOutside}
use Rattle.call_turns.specs.Store.{IsDecided, Stored, at_port}
use Rattle.call_turns.proofs.Outside.{door_fails, door_opens, keeps_none, no_door, off_port}
use Rattle.call_turns.proofs.Errands.{adds_none, one_opened}
use Rattle.call_turns.proofs.Turning.{can_of, decided_by}
use Rattle.call_turns.proofs.store.Store.open_door.Goals as goal

pub returns-in_default : goal.returns-in_default
returns-in_default c =
    let h : Stored = c.args.self.now in
    let sound : IsSound h.table = search rules in
    let all : AreSound h.table.descriptions = search rules in
    let can : CanDo (view h.table) c.args.call.now c.args.locking.object c.args.locking.deed =
    can_of c.table_follows_step.ensures.follows h c.args.call.now c.args.carried.moved c.args.locking sound all
    c.requires.decided in
    record {
      opens = no_door h c.args.call.now c.args.carried c.args.outcome.now (end.Reply (reply.Fail EIO)) h c.args.patience
          (keeps_none (view h.table) c.args.call.now c.args.locking.object c.args.locking.deed can
          c.in_default.not-Opens);
      few = refl;
      doors = record { key = 0; adds = λ q e at out. inl (adds_none h.table.descriptions q e at out) };
      fails = λ failed. refl;
      births = (omega arith, omega arith);
    }

pub returns-in-Ok-clause-opens : goal.returns-in-Ok-clause-opens
returns-in-Ok-clause-opens c =
    let h : Stored = c.args.self.now in
    let law = c.table_follows_step.ensures.follows in
    let sound : IsSound h.table = search rules in
    let all : AreSound h.table.descriptions = search rules in
    let does : Deed = deed.Opens c.in-Opens.blocks c.in-Opens.listener c.in-Opens.new in
    let decided : IsDecided h c.args.call.now c.args.carried.moved
    (record { object = c.args.locking.object; deed = does }) =
    decided_by h c.args.call.now c.args.carried.moved c.args.locking does c.in-Opens.is c.requires.decided in
    let can : CanDo (view h.table) c.args.call.now c.args.locking.object does =
    can_of law h c.args.call.now c.args.carried.moved (record { object = c.args.locking.object; deed = does })
    sound all decided in
    let long : length h.bodies ≡ limit.OBJECTS = search rules in
    let number : to_z w64 (of_z w64 c.open_door-number.result) ≡ pos c.in-Opens.new.number = search rules in
    let next : free_object h.table ≡ Some c.in-Opens.new.object = search rules in
    let sound_after : IsSound c.open_door-number.new.self = search rules in
    let all_after : AreSound c.open_door-number.new.self.descriptions = search rules in
    let shows : (s : State) → Shows h.table s
    → Shows c.open_door-number.new.self
    (door_opened s c.args.call.now (new_by (names_of h.table) c.in-Opens.new) c.in-Ok.value) =
    rw (← c.self.view_is) c.open_door-number.ensures.shows in
    let numbers : NumbersStay h.table c.open_door-number.new.self = search rules in
    rw (number, c.in-Ok.is, ap (λ (s : Stored). s.bodies) c.self.view_is)
    (door_opens law h c.args.call.now c.args.carried c.args.locking.object c.in-Opens.blocks c.in-Opens.listener
    c.in-Opens.new decided
    c.open_door-number.new.self c.in-Ok.value c.in-Ok.bytes c.args.patience long next
    (λ w stands. record {
      sound = sound_after;
      described = all_after;
      shows = shows w.object stands.shows;
      numbers = numbers;
    }))

pub returns-in-Ok-2-clause-opens : goal.returns-in-Ok-2-clause-opens
returns-in-Ok-2-clause-opens c =
    let h : Stored = c.args.self.now in
    let does : Deed = deed.Opens c.in-Opens.blocks c.in-Opens.listener c.in-Opens.new in
    let decided : IsDecided h c.args.call.now c.args.carried.moved
    (record { object = c.args.locking.object; deed = does }) =
    decided_by h c.args.call.now c.args.carried.moved c.args.locking does c.in-Opens.is c.requires.decided in
    let off : at_port c.args.call.now c.in-Ok-2.value ≡ false = search rules in
    rw c.in-Ok-2.is
    (off_port c.table_follows_step.ensures.follows h c.args.call.now c.args.carried c.args.locking.object
    c.in-Opens.blocks c.in-Opens.listener c.in-Opens.new decided
    c.in-Ok-2.value c.in-Ok-2.bytes (end.Reply (reply.Fail EIO)) h c.args.patience off)

pub returns-in-Fail-clause-opens : goal.returns-in-Fail-clause-opens
returns-in-Fail-clause-opens c =
    let h : Stored = c.args.self.now in
    let does : Deed = deed.Opens c.in-Opens.blocks c.in-Opens.listener c.in-Opens.new in
    let decided : IsDecided h c.args.call.now c.args.carried.moved
    (record { object = c.args.locking.object; deed = does }) =
    decided_by h c.args.call.now c.args.carried.moved c.args.locking does c.in-Opens.is c.requires.decided in
    let ends : EndsOutside c.args.patience c.args.carried
    (errand_of c.args.call.now c.in-Opens.blocks c.in-Opens.listener) (outcome.Fail c.in-Fail.error)
    c.fail_outside.result =
    subst (λ (e : Errand). EndsOutside c.args.patience c.args.carried e (outcome.Fail c.in-Fail.error)
    c.fail_outside.result) c.errand_of.ensures c.fail_outside.ensures.ends in
    rw c.in-Fail.is
    (door_fails c.table_follows_step.ensures.follows h c.args.call.now c.args.carried c.args.locking.object
    c.in-Opens.blocks c.in-Opens.listener c.in-Opens.new decided
    c.in-Fail.error c.fail_outside.result c.args.patience ends)

pub invariant_of-self-inside : goal.invariant_of-self-inside
invariant_of-self-inside c =
    let t : TableState = c.self.inside.table in
    let sound : IsSound t = search rules in
    let next : free_object t ≡ Some c.in-Opens.new.object = search rules in
    let free = c.table_follows_step.ensures.follows.next t c.in-Opens.new.object next in (
      search rules,
      (
        one_opened t c.in-Opens.new.object c.open_door-number.new.self.descriptions sound free.1
            c.open_door-number.ensures.doors c.self.inside.single,
        tt,
      ),
    )
