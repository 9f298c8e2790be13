use Rattle.std.proofs.Common.{◌≡◌, ◌++◌, drop}
use Rattle.std.specs.List.{flat_map}
use Rattle.run_pictures.specs.Picture.{tick_text}
use Rattle.run_pictures.proofs.picture.push_ticks.Given as goal

abbrev pub invariant-loop-tick : goal.invariant-loop-tick
invariant-loop-tick l =
    l.text.items ++ flat_map (tick_text l.height) (drop l.tick-index l.ticks)
    ≡ l.initial.text.items ++ flat_map (tick_text l.height) l.ticks
