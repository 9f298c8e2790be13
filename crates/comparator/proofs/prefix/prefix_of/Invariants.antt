use Rattle.std.proofs.Common.{drop, length}
use Rattle.std.specs.List.{AllZip}
use Rattle.comparator.specs.Comparison.{IsPrefixOf}
use Rattle.comparator.proofs.prefix.prefix_of.Given as goal

abbrev pub invariant-loop-one : goal.invariant-loop-one
invariant-loop-one l = record {
  on : AllZip IsPrefixOf (drop (length l.yielded) l.a) (drop (length l.yielded) l.b) → AllZip IsPrefixOf l.a l.b;
  back : AllZip IsPrefixOf l.a l.b → AllZip IsPrefixOf (drop (length l.yielded) l.a) (drop (length l.yielded) l.b);
}
