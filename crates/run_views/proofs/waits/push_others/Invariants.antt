use Rattle.std.proofs.Common.{◌≡◌, ◌++◌, drop}
use Rattle.std.specs.Prelude.{codes}
use Rattle.std.specs.List.{flat_map}
use Rattle.command_texts.specs.Transcripts.{◌+++◌}
use Rattle.run_views.specs.Waits.{wait_text}
use Rattle.run_views.proofs.waits.push_others.Given as goal

abbrev pub invariant-loop-other : goal.invariant-loop-other
invariant-loop-other l =
    l.text.items
    ++ flat_map (λ other. codes "," +++ wait_text other) (drop l.other-index l.others)
    ≡ l.initial.text.items ++ flat_map (λ other. codes "," +++ wait_text other) l.others
