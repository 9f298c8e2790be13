use Rattle.std.proofs.Common.{◌≡◌, ◌∙◌, None, ap, sym, take, map, length, arith}
use Rattle.std.proofs.lemmas.List.{take_all}
use Rattle.std.specs.FinMap as fin
use Rattle.sequential_object.specs.Object.{path_cmp}
use Rattle.sequential_object.specs.Paths.{components_of}
use Rattle.directories.specs.Entries.{IsAt, entry_of, names_of}
use Rattle.sequential_object.specs.Names.{PathMap}
use Rattle.directories.proofs.NameLemmas.{names_of-remove, names_of-remove_none}
use Rattle.directories.proofs.names.Names.remove_entry.Goals as goal

pub returns-in-Some-clause-removed : goal.returns-in-Some-clause-removed
returns-in-Some-clause-removed c =
    let path = components_of c.args.path.now in
    let items = c.self.inside.entries.items in
    let all : take c.args.count path ≡ path = rw c.requires (take_all (length path) path (omega arith)) in
    let at : IsAt items c.in-Some.at path = rw (c.as_slice.ensures.value, all) at c.in-Some.ensures.found in
    ap names_of c.remove.ensures.items ∙ names_of-remove items c.in-Some.at path c.self.invariant at
    ∙ ap (λ (m : PathMap). fin.remove m path) c.self.view_is

pub returns-in-None-clause-removed : goal.returns-in-None-clause-removed
returns-in-None-clause-removed c =
    let path = components_of c.args.path.now in
    let items = c.self.inside.entries.items in
    let all : take c.args.count path ≡ path = rw c.requires (take_all (length path) path (omega arith)) in
    let none : fin.find path_cmp path (map entry_of items) ≡ None =
    rw (c.as_slice.ensures.value, all) at c.in-None.ensures.missing in
    sym c.self.view_is ∙ names_of-remove_none items path none ∙ ap (λ (m : PathMap). fin.remove m path) c.self.view_is
