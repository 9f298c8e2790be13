use Rattle.std.proofs.Common.{◌≡◌, ◌+◌, [], List, map}
use Rattle.std.specs.Vec.Iter.{into_iter_items}
use Rattle.explorer.specs.Groups.{runs_of}
use Rattle.explore_texts.specs.Alike.{AllJoin, runs_in}
use Rattle.explore_texts.specs.Numbers.{number_in}
use Rattle.explore_texts.specs.declared.alike.AlikeRuns.{AlikeRuns}
use Rattle.explore_texts.proofs.alike.alike_runs.Given as goal

-- what joins from here on makes up all
abbrev pub invariant-loop-group : goal.invariant-loop-group
invariant-loop-group l = record {
  can_next : (goal.iterator-loop-group).can_next l.group-iterator;
  is_finite : (goal.iterator-loop-group).is_finite l.group-iterator;
  joins : (new : List AlikeRuns)
      → AllJoin l.raw l.texts (into_iter_items l.group-iterator) l.all.items new
      → AllJoin l.raw l.texts l.fn.groups [] new;
  numbers : l.numbers.items ≡ map number_in l.all.items;
  runs : runs_in l.all.items + runs_of (into_iter_items l.group-iterator) ≡ runs_of l.fn.groups;
}
