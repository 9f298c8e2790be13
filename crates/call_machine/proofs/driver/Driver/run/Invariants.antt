use Rattle.std.proofs.Common.{length}
use Rattle.call_machine.specs.Driven.{Begins, Rests}
use Rattle.call_machine.specs.Playing.{Played, played_of}
use Rattle.call_machine.specs.Setup.{Inputs}
use Rattle.call_machine.specs.Weights.{total}
use Rattle.call_machine.proofs.Scheduling.{HaveGoneOn}
use Rattle.call_machine.proofs.driver.Driver.run.Given as goal

-- the first threads have gone on as far as they can
abbrev pub invariant-loop-i : goal.invariant-loop-i
invariant-loop-i g l = HaveGoneOn l.i (played_of l.fn.self) (played_of l.self)

-- all have
abbrev pub invariant-loop-i-2 : goal.invariant-loop-i-2
invariant-loop-i-2 g l = (input : Inputs) → Begins input (played_of l.fn.self)
    → let p : Played = played_of l.self in Rests input (length p.players) p

abbrev pub decreases-loop-i-2 : goal.decreases-loop-i-2
decreases-loop-i-2 g l = let p : Played = played_of l.self in total p.whole.threads p.players
