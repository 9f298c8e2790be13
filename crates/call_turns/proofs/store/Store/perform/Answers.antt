use Rattle.std.proofs.Common.{◌≡◌, refl, subst, rules}
use Rattle.sequential_object.specs.declared.turn_end.ActEnd.{ActEnd}
use Rattle.file_descriptions.specs.Descriptions.{AreSound}
use Rattle.sequential_object.specs.So.{CanDo}
use Rattle.sequential_object.specs.declared.decision.Deed.{Deed}
use Rattle.sequential_object.specs.declared.decision.Deed.TheVariants as deed
use Rattle.descriptor_table.specs.Table.{IsSound}
use Rattle.descriptor_table.specs.View.{view}
use Rattle.call_turns.specs.Store.{EndsTurn, IsDecided, Stored}
use Rattle.descriptor_table.specs.Doors.{HaveOne}
use Rattle.call_turns.proofs.Errands.{adds_none, goes_asking as door_asking, goes_closing as door_closing}
use Rattle.call_turns.proofs.Errands.{goes_opening as door_opening}
use Rattle.call_turns.proofs.Making.{act_replied, act_waits}
use Rattle.call_turns.proofs.Outside.{goes_asking, goes_closing, goes_opening}
use Rattle.call_turns.proofs.Turning.{can_of, decided_by}
use Rattle.call_turns.proofs.store.Store.perform.Goals as goal

pub act-requires-clause-can : goal.act-requires-clause-can
act-requires-clause-can c =
    let h : Stored = c.args.self.now in
    let sound : IsSound h.table = search rules in
    let all : AreSound h.table.descriptions = search rules in
    let is : c.args.locking.deed ≡ deed.Acts c.in-Acts.act c.in-Acts.change = search rules in
    subst (λ (d : Deed). CanDo (view h.table) c.args.call.now c.args.locking.object d) is
    (can_of c.table_follows_step.ensures.follows h c.args.call.now c.args.carried.moved c.args.locking sound all
    c.requires.decided)

pub returns-in-Reply-clause-performs : goal.returns-in-Reply-clause-performs
returns-in-Reply-clause-performs c =
    let h : Stored = c.args.self.now in
    let decided : IsDecided h c.args.call.now c.args.carried.moved
    (record { object = c.args.locking.object; deed = deed.Acts c.in-Acts.act c.in-Acts.change }) =
    decided_by h c.args.call.now c.args.carried.moved c.args.locking (deed.Acts c.in-Acts.act c.in-Acts.change)
    c.in-Acts.is c.requires.decided in
    act_replied c.table_follows_step.ensures.follows h c.args.call.now c.args.carried c.args.locking.object
    c.in-Acts.act c.in-Acts.change decided c.in-Reply.reply c.act.new.self c.args.patience
    (subst (λ (e : ActEnd). EndsTurn c.args.carried h c.args.call.now e c.act.new.self) c.in-Reply.is
    c.act.ensures.ends)

pub returns-in-Waits-clause-performs : goal.returns-in-Waits-clause-performs
returns-in-Waits-clause-performs c =
    let h : Stored = c.args.self.now in
    let decided : IsDecided h c.args.call.now c.args.carried.moved
    (record { object = c.args.locking.object; deed = deed.Acts c.in-Acts.act c.in-Acts.change }) =
    decided_by h c.args.call.now c.args.carried.moved c.args.locking (deed.Acts c.in-Acts.act c.in-Acts.change)
    c.in-Acts.is c.requires.decided in
    act_waits c.table_follows_step.ensures.follows h c.args.call.now c.args.carried c.args.locking.object c.in-Acts.act
    c.in-Acts.change decided c.in-Waits.moved c.blocked.result c.act.new.self c.args.patience
    (subst (λ (e : ActEnd). EndsTurn c.args.carried h c.args.call.now e c.act.new.self) c.in-Waits.is
    c.act.ensures.ends) c.blocked.ensures.waits

pub returns-in-Asks-clause-performs : goal.returns-in-Asks-clause-performs
returns-in-Asks-clause-performs c =
    let h : Stored = c.args.self.now in
    let law = c.table_follows_step.ensures.follows in
    let sound : IsSound h.table = search rules in
    let all : AreSound h.table.descriptions = search rules in
    let decided : IsDecided h c.args.call.now c.args.carried.moved
    (record { object = c.args.locking.object; deed = deed.Asks c.in-Asks.blocks }) =
    decided_by h c.args.call.now c.args.carried.moved c.args.locking (deed.Asks c.in-Asks.blocks) c.in-Asks.is
    c.requires.decided in
    let can : CanDo (view h.table) c.args.call.now c.args.locking.object (deed.Asks c.in-Asks.blocks) =
    can_of law h c.args.call.now c.args.carried.moved
    (record { object = c.args.locking.object; deed = deed.Asks c.in-Asks.blocks }) sound all decided in
    rw c.errand_of.ensures (goes_asking law h c.args.call.now c.args.carried c.args.locking.object c.in-Asks.blocks
    decided can.2 c.args.patience)

pub returns-in-Closes-clause-performs : goal.returns-in-Closes-clause-performs
returns-in-Closes-clause-performs c =
    let h : Stored = c.args.self.now in
    let law = c.table_follows_step.ensures.follows in
    let sound : IsSound h.table = search rules in
    let all : AreSound h.table.descriptions = search rules in
    let does : Deed = deed.Closes c.in-Closes.number c.in-Closes.key in
    let decided : IsDecided h c.args.call.now c.args.carried.moved
    (record { object = c.args.locking.object; deed = does }) =
    decided_by h c.args.call.now c.args.carried.moved c.args.locking does c.in-Closes.is c.requires.decided in
    let can : CanDo (view h.table) c.args.call.now c.args.locking.object does =
    can_of law h c.args.call.now c.args.carried.moved (record { object = c.args.locking.object; deed = does })
    sound all decided in
    rw c.errand_of-in-Closes.ensures
    (goes_closing law h c.args.call.now c.args.carried c.args.locking.object c.in-Closes.number c.in-Closes.key
    c.change.new.self decided can.3 c.change.ensures.stands c.args.patience)

pub returns-in-Closes-clause-room : goal.returns-in-Closes-clause-room
returns-in-Closes-clause-room c =
    let h : Stored = c.args.self.now in
    let sound : IsSound h.table = search rules in
    let all : AreSound h.table.descriptions = search rules in
    let does : Deed = deed.Closes c.in-Closes.number c.in-Closes.key in
    let decided : IsDecided h c.args.call.now c.args.carried.moved
    (record { object = c.args.locking.object; deed = does }) =
    decided_by h c.args.call.now c.args.carried.moved c.args.locking does c.in-Closes.is c.requires.decided in
    let can : CanDo (view h.table) c.args.call.now c.args.locking.object does =
    can_of c.table_follows_step.ensures.follows h c.args.call.now c.args.carried.moved
    (record { object = c.args.locking.object; deed = does }) sound all decided in
    rw c.errand_of-in-Closes.ensures (refl, can.2)

pub returns-in-Opens-clause-performs : goal.returns-in-Opens-clause-performs
returns-in-Opens-clause-performs c =
    let h : Stored = c.args.self.now in
    let law = c.table_follows_step.ensures.follows in
    let sound : IsSound h.table = search rules in
    let all : AreSound h.table.descriptions = search rules in
    let does : Deed = deed.Opens c.in-Opens.blocks c.in-Opens.listener c.in-Opens.new in
    let decided : IsDecided h c.args.call.now c.args.carried.moved
    (record { object = c.args.locking.object; deed = does }) =
    decided_by h c.args.call.now c.args.carried.moved c.args.locking does c.in-Opens.is c.requires.decided in
    let can : CanDo (view h.table) c.args.call.now c.args.locking.object does =
    can_of law h c.args.call.now c.args.carried.moved (record { object = c.args.locking.object; deed = does })
    sound all decided in
    rw c.errand_of-in-Opens.ensures
    (goes_opening law h c.args.call.now c.args.carried c.args.locking.object c.in-Opens.blocks c.in-Opens.listener
    c.in-Opens.new decided can.0.keeps can.0.takes c.args.patience)

pub returns-in-Asks-clause-doors : goal.returns-in-Asks-clause-doors
returns-in-Asks-clause-doors c =
    let h : Stored = c.args.self.now in
    let law = c.table_follows_step.ensures.follows in
    let sound : IsSound h.table = search rules in
    let all : AreSound h.table.descriptions = search rules in
    let one : HaveOne h.table.descriptions = subst (λ (x : Stored). HaveOne x.table.descriptions) c.self.view_is
    c.self.inside.single in
    let does : Deed = deed.Asks c.in-Asks.blocks in
    let can : CanDo (view h.table) c.args.call.now c.args.locking.object does =
    can_of law h c.args.call.now c.args.carried.moved (record { object = c.args.locking.object; deed = does }) sound all
    (decided_by h c.args.call.now c.args.carried.moved c.args.locking does c.in-Asks.is c.requires.decided) in
    rw c.errand_of.ensures (
      adds_none h.table.descriptions,
      door_asking law h c.args.call.now c.args.locking.object sound one c.in-Asks.blocks can,
    )

pub returns-in-Closes-clause-doors : goal.returns-in-Closes-clause-doors
returns-in-Closes-clause-doors c =
    let h : Stored = c.args.self.now in
    let law = c.table_follows_step.ensures.follows in
    let sound : IsSound h.table = search rules in
    let all : AreSound h.table.descriptions = search rules in
    let one : HaveOne h.table.descriptions = subst (λ (x : Stored). HaveOne x.table.descriptions) c.self.view_is
    c.self.inside.single in
    let does : Deed = deed.Closes c.in-Closes.number c.in-Closes.key in
    let can : CanDo (view h.table) c.args.call.now c.args.locking.object does =
    can_of law h c.args.call.now c.args.carried.moved (record { object = c.args.locking.object; deed = does }) sound all
    (decided_by h c.args.call.now c.args.carried.moved c.args.locking does c.in-Closes.is c.requires.decided) in
    rw c.errand_of-in-Closes.ensures (
      c.change.ensures.doors,
      door_closing law h c.args.call.now c.args.locking.object sound one c.in-Closes.number c.in-Closes.key
          c.change.new.self can c.change.ensures.doors c.change.ensures.last,
    )

pub returns-in-Opens-clause-doors : goal.returns-in-Opens-clause-doors
returns-in-Opens-clause-doors c =
    let h : Stored = c.args.self.now in
    let law = c.table_follows_step.ensures.follows in
    let sound : IsSound h.table = search rules in
    let all : AreSound h.table.descriptions = search rules in
    let one : HaveOne h.table.descriptions = subst (λ (x : Stored). HaveOne x.table.descriptions) c.self.view_is
    c.self.inside.single in
    let does : Deed = deed.Opens c.in-Opens.blocks c.in-Opens.listener c.in-Opens.new in
    let can : CanDo (view h.table) c.args.call.now c.args.locking.object does =
    can_of law h c.args.call.now c.args.carried.moved (record { object = c.args.locking.object; deed = does }) sound all
    (decided_by h c.args.call.now c.args.carried.moved c.args.locking does c.in-Opens.is c.requires.decided) in
    rw c.errand_of-in-Opens.ensures (
      adds_none h.table.descriptions,
      door_opening law h c.args.call.now c.args.locking.object sound one c.in-Opens.blocks c.in-Opens.listener
          c.in-Opens.new can.0,
    )
