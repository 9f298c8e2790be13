use Rattle.std.proofs.Common.{◌≡◌, ◌++◌, drop}
use Rattle.std.specs.List.{flat_map}
use Rattle.run_views.specs.Reasons.{blocked_words}
use Rattle.run_views.proofs.reason.push_blocked.Given as goal

abbrev pub invariant-loop-line : goal.invariant-loop-line
invariant-loop-line l =
    l.text.items ++ flat_map blocked_words (drop l.line-index l.blocked)
    ≡ l.initial.text.items ++ flat_map blocked_words l.blocked
