use Rattle.call_machine.specs.Playing.{Played, played_of}
use Rattle.call_machine.specs.Weights.{total}
use Rattle.call_machine.proofs.Scheduling.{KeepsOn}
use Rattle.call_machine.proofs.driver.Driver.go_on.Given as goal

abbrev pub invariant-loop-watch : goal.invariant-loop-watch
invariant-loop-watch g l = KeepsOn l.i (played_of l.fn.self) (played_of l.self)

abbrev pub decreases-loop-watch : goal.decreases-loop-watch
decreases-loop-watch g l = let p : Played = played_of l.self in total p.whole.threads p.players
