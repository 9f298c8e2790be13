use Rattle.std.proofs.Common.{◌≡◌, ◌++◌, drop}
use Rattle.run_pictures.specs.Page.{links_text}
use Rattle.run_pictures.proofs.pages.push_links.Given as goal

abbrev pub invariant-loop-number : goal.invariant-loop-number
invariant-loop-number l =
    l.text.items ++ links_text l.place l.number (drop l.number l.runs)
    ≡ l.initial.text.items ++ links_text l.place 0 l.runs
