use Rattle.std.proofs.Common.{◌≡◌, ◌++◌, drop}
use Rattle.run_pictures.specs.Drawn.{calls_of}
use Rattle.run_pictures.specs.Trace.{calls_of_timed}
use Rattle.run_pictures.proofs.traces.timed_calls.Given as goal

abbrev pub invariant-loop-drawn : goal.invariant-loop-drawn
invariant-loop-drawn l =
    calls_of_timed l.timed.items ++ calls_of (drop l.drawn-index l.calls) ≡ calls_of l.calls
