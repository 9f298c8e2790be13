use Rattle.std.proofs.Common.{◌≡◌, map, take}
use Rattle.std.specs.List.{list_all}
use Rattle.check_commands.specs.Checking.{AreFindings, is_script_text, scripts_among}
use Rattle.check_commands.proofs.checking.texts_checked.Given as goal

abbrev pub invariant-loop-i : goal.invariant-loop-i
invariant-loop-i l =
    (l.all ≡ list_all is_script_text (take l.i l.texts))
    × AreFindings l.json (map (λ p. p.now) (take l.i l.paths)) (take l.i l.texts) l.output.items
    × (l.scripts.scripts.items ≡ scripts_among (take l.i l.texts))
