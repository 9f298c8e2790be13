use Rattle.std.proofs.Common.{◌≡◌, ◌⊎◌, inl, inr, arith, length, refl, sym, subst, rules}
use Rattle.std.specs.Prelude.{pos}
use Rattle.posix_terms.specs.declared.limits.TheConstants.Limits as limit
use Rattle.posix_terms.specs.declared.reply.Reply.TheVariants as reply
use Rattle.sequential_object.specs.declared.turn_end.ActEnd.TheVariants as act_end
use Rattle.sequential_object.specs.So.{CanDo}
use Rattle.sequential_object.specs.declared.decision.Act.{Act}
use Rattle.sequential_object.specs.declared.decision.Act.TheVariants as act
use Rattle.sequential_object.specs.declared.decision.Deed.TheVariants as deed
use Rattle.descriptor_table.specs.View.{view}
use Rattle.descriptor_table.specs.Table.{IsSound}
use Rattle.sequential_object.specs.Acts.{released_reply}
use Rattle.sequential_object.specs.Bytes.{read_count}
use Rattle.sequential_object.specs.Acts.{Replies}
use Rattle.sequential_object.specs.Meant.{acts, ended, key_of}
use Rattle.sequential_object.specs.Renaming.{act_by}
use Rattle.descriptor_table.specs.Shows.{birth_at}
use Rattle.descriptor_table.specs.View.{names_of}
use Rattle.sequential_object.specs.Object.{State}
use Rattle.call_turns.specs.Acting.{IsReady, Leaves, StandsChanged, acts_at, cut_to}
use Rattle.call_turns.specs.Store.{EndsTurn, IsDecided, Stored}
use Rattle.call_turns.proofs.Acting.{ReadsOrWrites}
use Rattle.call_turns.proofs.Errands.{key_known, left_adds}
use Rattle.call_turns.specs.Doors.{KeepsDoors}
use Rattle.call_turns.proofs.Ending.{MakesNothing, ends_acting, ends_opening, ends_replying, left_made}
use Rattle.call_turns.proofs.Ending.{reads_or_writes, ready_for, released_ends, released_succeeds}
use Rattle.call_turns.proofs.store.Store.act.Goals as goal

pub returns-in-Open-clause-ends : goal.returns-in-Open-clause-ends
returns-in-Open-clause-ends c =
    let h : Stored = c.args.self.now in
    let does : Act = act.Open c.in-Open.number c.in-Open.cut in
    let is : c.args.act ≡ does = search rules in
    let can : CanDo (view h.table) c.args.call.now c.args.object (deed.Acts does c.args.change) =
    subst (λ (a : Act). CanDo (view h.table) c.args.call.now c.args.object (deed.Acts a c.args.change)) is
    c.requires.can in
    let decided : IsDecided h c.args.call.now c.args.carried.moved
    (record { object = c.args.object; deed = deed.Acts does c.args.change }) =
    subst (λ (a : Act). IsDecided h c.args.call.now c.args.carried.moved
    (record { object = c.args.object; deed = deed.Acts a c.args.change })) is c.requires.decided in
    let long : length h.bodies ≡ limit.OBJECTS = search rules in
    let stands : StandsChanged (cut_to h c.args.object c.in-Open.cut) c.args.call.now c.args.change c.change.new.self =
    search rules in
    rw c.number_reply.ensures
    (ends_opening c.table_follows_step.ensures.follows h c.args.call.now c.args.object c.in-Open.number c.in-Open.cut
    c.args.change can long c.args.carried decided c.change.new.self stands)

pub returns-in-Create-clause-ends : goal.returns-in-Create-clause-ends
returns-in-Create-clause-ends c =
    let h : Stored = c.args.self.now in
    let does : Act = act.Create c.in-Create.number in
    let is : c.args.act ≡ does = search rules in
    let can : CanDo (view h.table) c.args.call.now c.args.object (deed.Acts does c.args.change) =
    subst (λ (a : Act). CanDo (view h.table) c.args.call.now c.args.object (deed.Acts a c.args.change)) is
    c.requires.can in
    let decided : IsDecided h c.args.call.now c.args.carried.moved
    (record { object = c.args.object; deed = deed.Acts does c.args.change }) =
    subst (λ (a : Act). IsDecided h c.args.call.now c.args.carried.moved
    (record { object = c.args.object; deed = deed.Acts a c.args.change })) is c.requires.decided in
    let long : length h.bodies ≡ limit.OBJECTS = search rules in
    rw c.number_reply-in-Create.ensures
    (ends_replying c.table_follows_step.ensures.follows h c.args.call.now c.args.object does c.args.change can long
    c.args.carried decided (reply.Number (pos c.in-Create.number)) c.change-in-Create.new.self
    (λ e same. cc) (λ s. refl) c.change-in-Create.ensures.stands)

pub returns-in-Release-clause-ends : goal.returns-in-Release-clause-ends
returns-in-Release-clause-ends c =
    let h : Stored = c.args.self.now in
    let does : Act = act.Release in
    let is : c.args.act ≡ does = search rules in
    let can : CanDo (view h.table) c.args.call.now c.args.object (deed.Acts does c.args.change) =
    subst (λ (a : Act). CanDo (view h.table) c.args.call.now c.args.object (deed.Acts a c.args.change)) is
    c.requires.can in
    let decided : IsDecided h c.args.call.now c.args.carried.moved
    (record { object = c.args.object; deed = deed.Acts does c.args.change }) =
    subst (λ (a : Act). IsDecided h c.args.call.now c.args.carried.moved
    (record { object = c.args.object; deed = deed.Acts a c.args.change })) is c.requires.decided in
    let long : length h.bodies ≡ limit.OBJECTS = search rules in
    rw c.released_reply.ensures
    (ends_replying c.table_follows_step.ensures.follows h c.args.call.now c.args.object does c.args.change can long
    c.args.carried decided (released_reply c.args.call.now) c.change-in-Release.new.self
    (released_succeeds c.args.call.now) (λ s. released_ends s c.args.call.now) c.change-in-Release.ensures.stands)

pub returns-in_default : goal.returns-in_default
returns-in_default c =
    let h : Stored = c.args.self.now in
    let law = c.table_follows_step.ensures.follows in
    let long : length h.bodies ≡ limit.OBJECTS = search rules in
    let sound : IsSound h.table = search rules in
    let ready : IsReady h.table (length c.args.room.now.items) c.args.act = search rules in
    let its : ReadsOrWrites c.args.act = reads_or_writes h.table (length c.args.room.now.items) c.args.act ready in
    let few : IsReady h.table (read_count c.args.call.now) c.args.act =
    ready_for law h.table c.args.call.now c.args.object c.args.act sound c.requires.can.1 its in
    let leaves : Leaves (acts_at h c.args.object c.args.act c.args.call.now) h c.args.object (key_of c.args.act)
    c.act_on.result c.act_on.new.self = search rules in
    let made : MakesNothing h c.act_on.new.self =
    subst (MakesNothing h) (sym leaves.1)
    (left_made h c.args.object (key_of c.args.act) (acts_at h c.args.object c.args.act c.args.call.now)) in
    record {
      ends = ends_acting law h c.args.call.now c.args.object c.args.act c.args.change c.requires.can long c.args.carried
          c.requires.decided its c.act_on.result c.act_on.new.self leaves;
      doors = subst (KeepsDoors h) (sym leaves.1) (left_adds h c.args.object (key_of c.args.act)
          (acts_at h c.args.object c.args.act c.args.call.now) (key_known h c.args.act c.args.room.now.items ready));
      few = c.act_on.ensures.few few;
      births = (omega (arith, made.0), omega (arith, made.1));
    }

pub returns-in-Pipe-clause-ends : goal.returns-in-Pipe-clause-ends
returns-in-Pipe-clause-ends c = rw c.pair_reply.ensures (by_act c.in-Pipe.is)
  where
    long : length c.args.self.now.bodies ≡ limit.OBJECTS
    long = search rules

    ends : (a : Act) → c.args.act ≡ a
        → ((s : State) → acts s (birth_at c.args.self.now.table c.args.object)
        (act_by (names_of c.args.self.now.table) a) c.args.call.now
        ≡ ended s (Replies (reply.Pair (pos c.in-Pipe.first) (pos c.in-Pipe.second))))
        → EndsTurn c.args.carried c.args.self.now c.args.call.now
        (act_end.Reply (reply.Pair (pos c.in-Pipe.first) (pos c.in-Pipe.second))) c.change-in-Pipe.new.self
    ends a is replies =
        let can : CanDo (view c.args.self.now.table) c.args.call.now c.args.object (deed.Acts a c.args.change) =
        subst (λ (a : Act). CanDo (view c.args.self.now.table) c.args.call.now c.args.object
        (deed.Acts a c.args.change)) is c.requires.can in
        let decided : IsDecided c.args.self.now c.args.call.now c.args.carried.moved
        (record { object = c.args.object; deed = deed.Acts a c.args.change }) =
        subst (λ (a : Act). IsDecided c.args.self.now c.args.call.now c.args.carried.moved
        (record { object = c.args.object; deed = deed.Acts a c.args.change })) is c.requires.decided in
        ends_replying c.table_follows_step.ensures.follows c.args.self.now c.args.call.now c.args.object a c.args.change
        can long c.args.carried decided
        (reply.Pair (pos c.in-Pipe.first) (pos c.in-Pipe.second)) c.change-in-Pipe.new.self (λ e same. cc) replies
        c.change-in-Pipe.ensures.stands

    by_act : (c.args.act ≡ act.Pipe c.in-Pipe.first c.in-Pipe.second)
        ⊎ (c.args.act ≡ act.Socketpair c.in-Pipe.first c.in-Pipe.second)
        → EndsTurn c.args.carried c.args.self.now c.args.call.now
        (act_end.Reply (reply.Pair (pos c.in-Pipe.first) (pos c.in-Pipe.second))) c.change-in-Pipe.new.self
    by_act (inl is) = ends (act.Pipe c.in-Pipe.first c.in-Pipe.second) is (λ s. refl)
    by_act (inr is) = ends (act.Socketpair c.in-Pipe.first c.in-Pipe.second) is (λ s. refl)
