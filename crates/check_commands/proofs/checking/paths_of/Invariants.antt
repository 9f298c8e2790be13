use Rattle.std.proofs.Common.{◌≡◌, ◌++◌, drop, map}
use Rattle.check_commands.proofs.checking.paths_of.Given as goal

abbrev pub invariant-loop-i : goal.invariant-loop-i
invariant-loop-i g l =
    map (λ p. p.now) l.paths.items ++ map (λ s. s.path.now) (drop l.i l.sources)
    ≡ map (λ s. s.path.now) l.sources
