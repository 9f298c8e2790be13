use Rattle.std.proofs.Common.{◌≡◌, ◌++◌, drop}
use Rattle.run_pictures.specs.Drawn.{calls_of}
use Rattle.compare_and_draw.proofs.clocks.drawn_calls.Given as goal

abbrev pub invariant-loop-call : goal.invariant-loop-call
invariant-loop-call l = calls_of l.drawn.items ++ drop l.call-index l.calls ≡ l.calls
