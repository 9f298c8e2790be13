use Rattle.std.proofs.Common.{◌≡◌, ◌++◌, drop}
use Rattle.std.specs.List.{flat_map}
use Rattle.run_pictures.specs.Picture.{run_text}
use Rattle.run_pictures.proofs.picture.push_runs.Given as goal

abbrev pub invariant-loop-i : goal.invariant-loop-i
invariant-loop-i l =
    l.text.items ++ flat_map (run_text l.differs l.ticks) (drop l.i l.runs)
    ≡ l.initial.text.items ++ flat_map (run_text l.differs l.ticks) l.runs
