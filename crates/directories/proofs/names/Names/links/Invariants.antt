use Rattle.std.proofs.Common.{◌≡◌, ◌+◌, ◌≤◌, drop}
use Rattle.sequential_object.specs.Names.{links_of}
use Rattle.directories.proofs.NameLemmas.{links_in}
use Rattle.directories.proofs.names.Names.links.Given as goal

-- the names counted and those that are left
abbrev pub invariant-loop-entry : goal.invariant-loop-entry
invariant-loop-entry l =
    record {
      counted : l.count + links_in l.node (drop l.entry-index l.entry-items) ≡ links_of l.self l.node;
      few : links_of l.self l.node ≤ 64;
    }
