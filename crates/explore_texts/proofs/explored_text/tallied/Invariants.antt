use Rattle.std.proofs.Common.{◌≡◌, take}
use Rattle.explore_texts.specs.Found.{tallied}
use Rattle.explore_texts.proofs.explored_text.tallied.Given as goal

abbrev pub invariant-loop-finding : goal.invariant-loop-finding
invariant-loop-finding l = l.count ≡ tallied l.tally (take l.finding-index l.findings)
