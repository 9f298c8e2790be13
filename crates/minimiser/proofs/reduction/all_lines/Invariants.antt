use Rattle.std.proofs.Common.{◌≡◌, ◌++◌, drop, map}
use Rattle.minimiser.specs.Parts.{part_of}
use Rattle.minimiser.proofs.reduction.all_lines.Given as goal

-- the lines so far and those to come make up the whole
abbrev pub invariant-loop-line : goal.invariant-loop-line
invariant-loop-line l =
    l.kept.items ++ map part_of (map (λ line. line.now) (drop l.line-index l.line-items))
    ≡ map part_of (map (λ line. line.now) l.line-items)
