use Rattle.std.proofs.Common.{◌≡◌, All, length, take}
use Rattle.explore_texts.specs.Alike.{AreAlike}
use Rattle.explore_texts.specs.declared.alike.AlikeRuns.{AlikeRuns}
use Rattle.explore_texts.proofs.alike.join.Given as goal

-- nothing has changed, and the runs so far are not alike
abbrev pub invariant-loop-i : goal.invariant-loop-i
invariant-loop-i l = record {
  kept : l.all ≡ l.initial.all;
  numbers : l.numbers ≡ l.initial.numbers;
  ends : l.i-end ≡ length l.all.items;
  others : All (λ (other : AlikeRuns). ¬ AreAlike other l.runs) (take l.i l.all.items);
}
