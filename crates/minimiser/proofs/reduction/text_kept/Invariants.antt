use Rattle.std.proofs.Common.{◌≡◌, ◌++◌, drop, map}
use Rattle.minimiser.specs.Reductions.{kept_lines}
use Rattle.minimiser.proofs.reduction.text_kept.Given as goal

-- the lines so far and those to come make up the whole
abbrev pub invariant-loop-i : goal.invariant-loop-i
invariant-loop-i l =
    l.rest.items
    ++ kept_lines (drop l.i l.kept) (map (λ line. line.now) (drop l.i l.line-items))
    ≡ kept_lines l.kept (map (λ line. line.now) l.line-items)
