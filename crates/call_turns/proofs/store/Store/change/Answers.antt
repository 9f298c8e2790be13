use Rattle.std.proofs.Common.{◌≡◌, length, rules}
use Rattle.posix_terms.specs.declared.limits.TheConstants.Limits as limit
use Rattle.sequential_object.specs.So.{Can}
use Rattle.descriptor_table.specs.View.{view}
use Rattle.call_turns.specs.Store.{Stands, Stored}
use Rattle.call_turns.proofs.Changing.{inside, stands_changed}
use Rattle.call_turns.proofs.Errands.{one_adds}
use Rattle.call_turns.proofs.store.Store.change.Goals as goal

pub clear-requires : goal.clear-requires
clear-requires c = inside c.table_follows_step.ensures.follows c.args.self.now.table c.args.call.now c.args.change
    c.requires.can

pub returns-clause-stands : goal.returns-clause-stands
returns-clause-stands c = λ w st.
    let h : Stored = record { table = c.self.inside.table; bodies = c.self.inside.bodies.items } in
    let stood : Stands h w = rw (← c.self.view_is) at st in
    let can : Can (view h.table) c.args.call.now c.args.change = rw (← c.self.view_is) at c.requires.can in
    let long : length h.bodies ≡ limit.OBJECTS = search rules in
    rw (← c.self.view_is, c.clear.ensures)
    (stands_changed c.table_follows_step.ensures.follows h w stood long c.args.call.now c.carry_out.new.self
    c.args.change can
    (record {
      sound = c.made.ensures.sound;
      described = c.made.ensures.births;
      shows = c.carry_out.ensures.shows w.object stood.shows;
      numbers = c.carry_out.ensures.numbers;
    }))

pub invariant_of-self-inside : goal.invariant_of-self-inside
invariant_of-self-inside c = (
  search rules,
  (
    one_adds c.self.inside.table.descriptions c.carry_out.new.self.descriptions
        c.carry_out.ensures.doors c.self.inside.single,
    tt,
  ),
)
