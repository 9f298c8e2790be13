use Rattle.std.proofs.Common.{◌≡◌, ◌++◌, drop}
use Rattle.explorer.specs.Varied.{varied_texts}
use Rattle.explorer.proofs.vary.varied_texts.Given as goal

-- the texts so far and those of the threads that are left make up the whole
abbrev pub invariant-loop-thread : goal.invariant-loop-thread
invariant-loop-thread g l =
    l.all.items
    ++ varied_texts (g.D.Delays.delays_of l.delays l.case) l.thread (drop l.thread l.texts)
    ≡ varied_texts (g.D.Delays.delays_of l.delays l.case) 0 l.texts
