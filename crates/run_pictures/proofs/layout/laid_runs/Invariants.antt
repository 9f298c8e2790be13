use Rattle.std.proofs.Common.{◌≡◌, ◌++◌, drop, map}
use Rattle.run_pictures.specs.Layout.{drawn_of, laid_of}
use Rattle.run_pictures.proofs.layout.laid_runs.Given as goal

abbrev pub invariant-loop-run : goal.invariant-loop-run
invariant-loop-run l =
    map laid_of l.laid.items ++ map drawn_of (drop l.run-index l.runs) ≡ map drawn_of l.runs
