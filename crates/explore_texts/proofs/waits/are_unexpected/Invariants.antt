use Rattle.std.proofs.Common.{◌≡◌, drop}
use Rattle.std.specs.List.{list_any}
use Rattle.explore_texts.specs.Waits.{interrupt_expected}
use Rattle.explore_texts.proofs.waits.are_unexpected.Given as goal

-- none of the lines so far is expected to be interrupted
abbrev pub invariant-loop-line : goal.invariant-loop-line
invariant-loop-line l =
    list_any (interrupt_expected l.texts) (drop l.line-index l.lines)
    ≡ list_any (interrupt_expected l.texts) l.lines
