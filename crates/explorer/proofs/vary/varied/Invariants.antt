use Rattle.std.proofs.Common.{◌≡◌, ◌++◌, drop, map}
use Rattle.explorer.specs.Varied.{varied_lines}
use Rattle.explorer.proofs.vary.varied.Given as goal

-- what is added so far and is to be added makes up the whole
abbrev pub invariant-loop-above : goal.invariant-loop-above
invariant-loop-above g l =
    l.varied.items
    ++ varied_lines (g.D.Delays.delays_of l.delays l.case l.thread) l.above
    (map (λ line. line.now) (drop l.above l.line-items))
    ≡ varied_lines (g.D.Delays.delays_of l.delays l.case l.thread) 0
    (map (λ line. line.now) l.line-items)
