use Rattle.std.proofs.Common.{◌≡◌, ◌+◌, List, length}
use Rattle.std.specs.Vec.Iter.{into_iter_items}
use Rattle.explorer.specs.Groups.{runs_of}
use Rattle.explorer.specs.Joining.{AllJoin, HasFault}
use Rattle.explorer.specs.declared.fault.RunFault.{RunFault}
use Rattle.explorer.specs.declared.groups.Group.{Group}
use Rattle.explorer.proofs.observing.join_all.Given as goal

-- what joins the groups from here on makes up all
abbrev pub invariant-loop-one : goal.invariant-loop-one
invariant-loop-one l = record {
  can_next : (goal.iterator-loop-one).can_next l.one-iterator;
  is_finite : (goal.iterator-loop-one).is_finite l.one-iterator;
  joins : (new : List Group) → AllJoin l.case (into_iter_items l.one-iterator) l.groups new
      → AllJoin l.fn.first l.fn.seen.items l.initial.groups new;
  faults : (why : RunFault) → HasFault (into_iter_items l.one-iterator) why → HasFault l.fn.seen.items why;
  runs : runs_of l.groups + length (into_iter_items l.one-iterator)
      ≡ runs_of l.initial.groups + length l.fn.seen.items;
  cases : l.case + length (into_iter_items l.one-iterator) ≡ l.fn.first + length l.fn.seen.items;
}
