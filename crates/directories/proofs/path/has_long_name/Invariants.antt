use Rattle.std.proofs.Common.{◌≡◌, length, nat_lt, List, ℕ}
use Rattle.std.specs.List.{list_any}
use Rattle.sequential_object.specs.Paths.{components_of}
use Rattle.directories.proofs.path.has_long_name.Given as goal

abbrev pub invariant-loop-name : goal.invariant-loop-name
invariant-loop-name l = list_any (λ (name : List ℕ). nat_lt 14 (length name)) (components_of l.path)
    ≡ list_any (λ (name : List ℕ). nat_lt 14 (length name)) (components_of l.rest)

abbrev pub decreases-loop-name : goal.decreases-loop-name
decreases-loop-name l = length l.rest
