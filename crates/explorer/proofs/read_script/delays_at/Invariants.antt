use Rattle.std.proofs.Common.{take}
use Rattle.explorer.specs.ReadScripts.{AreDelays}
use Rattle.explorer.proofs.read_script.delays_at.Given as goal

-- the delays of the numbers so far
abbrev pub invariant-loop-number : goal.invariant-loop-number
invariant-loop-number g l =
    AreDelays (g.D.Delays.delays_of l.delays l.case l.thread) (take l.number-index l.numbers)
    l.works.items
