use Rattle.std.proofs.Common.{List}
use Rattle.std.specs.Vec.Iter.{into_iter_items}
use Rattle.explore_commands.specs.Pushed.{ArePushed}
use Rattle.explore_texts.specs.declared.finding.Finding.{Finding}
use Rattle.explore_commands.proofs.faults.push_all.Given as goal

-- what is added from here on makes up all
abbrev pub invariant-loop-one : goal.invariant-loop-one
invariant-loop-one l = record {
  can_next : (goal.iterator-loop-one).can_next l.one-iterator;
  is_finite : (goal.iterator-loop-one).is_finite l.one-iterator;
  pushed : (new : List Finding)
      → ArePushed (into_iter_items l.one-iterator) l.findings.items new
      → ArePushed l.fn.found.items l.initial.findings.items new;
}
