use Rattle.std.proofs.Common.{◌≡◌, ◌-◌, take}
use Rattle.sequential_object.specs.Paths.{components_of}
use Rattle.directories.specs.Hashes.{hash_from, hash_of}
use Rattle.directories.proofs.path.prefix_hash.Given as goal

-- what is left leads to the whole hash
abbrev pub invariant-loop : goal.invariant-loop
invariant-loop l =
    hash_from l.hasher (take (l.count - l.counter) (components_of l.rest))
    ≡ hash_of (take l.count (components_of l.path))
