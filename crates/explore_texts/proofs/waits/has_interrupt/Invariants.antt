use Rattle.std.proofs.Common.{◌≡◌, drop}
use Rattle.std.specs.List.{list_any}
use Rattle.explore_texts.specs.Waits.{is_interrupt}
use Rattle.explore_texts.proofs.waits.has_interrupt.Given as goal

abbrev pub invariant-loop-expectation : goal.invariant-loop-expectation
invariant-loop-expectation l =
    list_any (is_interrupt l.line) (drop l.expectation-index l.expectations)
    ≡ list_any (is_interrupt l.line) l.expectations
