use Rattle.std.proofs.Common.{◌≡◌, ◌++◌, drop}
use Rattle.std.specs.Prelude.{codes}
use Rattle.std.specs.Fmt.{decimal}
use Rattle.std.specs.List.{flat_map}
use Rattle.command_texts.specs.Transcripts.{◌+++◌}
use Rattle.explore_texts.proofs.cut_off.push_others.Given as goal

abbrev pub invariant-loop-other : goal.invariant-loop-other
invariant-loop-other l =
    l.text.items
    ++ flat_map (λ other. codes "," +++ decimal other) (drop l.other-index l.others)
    ≡ l.initial.text.items ++ flat_map (λ other. codes "," +++ decimal other) l.others
