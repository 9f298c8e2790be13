use Rattle.std.proofs.Common.{◌≡◌, drop, map, take}
use Rattle.std.specs.FinMap as fin
use Rattle.sequential_object.specs.Object.{path_cmp}
use Rattle.sequential_object.specs.Paths.{components_of}
use Rattle.directories.specs.Entries.{entry_of}
use Rattle.directories.proofs.names.position.Given as goal

-- none of those passed is the one
abbrev pub invariant-loop-i : goal.invariant-loop-i
invariant-loop-i l =
    let path = take l.count (components_of l.path) in
    fin.find path_cmp path (map entry_of (drop l.i l.entries)) ≡ fin.find path_cmp path (map entry_of l.entries)
