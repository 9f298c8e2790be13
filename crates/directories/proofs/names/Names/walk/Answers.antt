use Rattle.std.proofs.Common.{◌≡◌, ◌+◌, ◌<◌, ◌∙◌, Some, length, sym, take, arith}
use Rattle.sequential_object.specs.Object.{FileNode}
use Rattle.sequential_object.specs.Paths.{components_of, node_at}
use Rattle.directories.proofs.NameLemmas.{walked_file}
use Rattle.directories.proofs.names.Names.walk.Goals as goal

pub returns-in-Some-File-clause-err : goal.returns-in-Some-File-clause-err
returns-in-Some-File-clause-err c =
    let path = components_of c.args.path.now in
    let file : node_at c.args.self.now (take (c.loop-passed.passed + 1) path)
    ≡ Some (FileNode c.in-Some-File.field-0-0) = grind arith in
    let inside : c.loop-passed.passed + 1 < length path = grind arith in
    sym c.loop-passed.invariant ∙ walked_file c.args.self.now path c.loop-passed.passed c.in-Some-File.field-0-0 inside
    file
