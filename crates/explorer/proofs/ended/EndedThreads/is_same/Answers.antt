use Rattle.std.proofs.Common.{rules}
use Rattle.std.proofs.lemmas.Slice.Eq.{slice_eq-Decides}
use Rattle.std.specs.Cmp.{booleans_Decides}
use Rattle.explorer.proofs.ended.EndedThreads.is_same.Goals as goal

pub returns : goal.returns
returns c =
    slice_eq-Decides booleans_Decides c.args.self.now c.args.other.now c.eq.result (search rules)
