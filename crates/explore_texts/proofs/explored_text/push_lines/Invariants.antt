use Rattle.std.proofs.Common.{◌≡◌, ◌++◌, drop}
use Rattle.explore_texts.specs.Found.{lines_of}
use Rattle.explore_texts.proofs.explored_text.push_lines.Given as goal

abbrev pub invariant-loop-finding : goal.invariant-loop-finding
invariant-loop-finding l =
    l.text.items ++ lines_of l.shown (drop l.finding-index l.findings)
    ≡ l.initial.text.items ++ lines_of l.shown l.findings
