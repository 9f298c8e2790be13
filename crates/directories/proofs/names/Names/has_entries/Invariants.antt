use Rattle.std.proofs.Common.{◌≡◌, drop}
use Rattle.sequential_object.specs.Paths.{components_of}
use Rattle.sequential_object.specs.Names.{has_entries}
use Rattle.directories.proofs.NameLemmas.{leads_in}
use Rattle.directories.proofs.names.Names.has_entries.Given as goal

abbrev pub invariant-loop-entry : goal.invariant-loop-entry
invariant-loop-entry l = leads_in (components_of l.path) (drop l.entry-index l.entry-items)
    ≡ has_entries l.self (components_of l.path)
