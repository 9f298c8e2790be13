use Rattle.std.proofs.Common.{◌≡◌, Ok, Err, ◌∙◌, ap, rules, sym}
use Rattle.std.specs.FinMap as fin
use Rattle.directories.specs.Naming.{removed_dir}
use Rattle.sequential_object.specs.Paths.{components_of}
use Rattle.descriptor_table.proofs.DecideLemmas.{gone, removes}
use Rattle.descriptor_table.proofs.table.Table.removing_directory.Goals as goal

pub returns-in-Ok : goal.returns-in-Ok
returns-in-Ok c =
    let paths = c.args.self.now.paths in
    let is : removed_dir paths c.args.path.now ≡ Ok (fin.remove paths (components_of c.args.path.now)) = search rules in
    sym (ap gone is) ∙ removes c.args.self.now c.args.path.now

pub returns-in-Err : goal.returns-in-Err
returns-in-Err c =
    let is : removed_dir c.args.self.now.paths c.args.path.now ≡ Err c.in-Err.error = search rules in
    sym (ap gone is) ∙ removes c.args.self.now c.args.path.now
