use Rattle.std.proofs.Common.{◌≡◌, ◌++◌, drop, map}
use Rattle.posix_terms.specs.Outcomes.{undated}
use Rattle.explore_commands.proofs.undated.undated.Given as goal

abbrev pub invariant-loop-given : goal.invariant-loop-given
invariant-loop-given l =
    l.outcomes.items ++ map undated (drop l.given-index l.dated) ≡ map undated l.dated
