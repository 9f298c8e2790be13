use Rattle.std.proofs.Common.{◌≡◌, drop, take, []}
use Rattle.sequential_object.specs.Paths.{components_of, walked}
use Rattle.directories.proofs.names.Names.walk.Given as goal

abbrev pub invariant-loop-passed : goal.invariant-loop-passed
invariant-loop-passed l =
    walked l.self (take l.passed (components_of l.path)) (drop l.passed (components_of l.path))
    ≡ walked l.self [] (components_of l.path)
