use Rattle.std.proofs.Common.{◌≡◌, drop}
use Rattle.explore_texts.specs.Found.{all_pass}
use Rattle.explore_texts.proofs.explored_text.all_pass.Given as goal

abbrev pub invariant-loop-finding : goal.invariant-loop-finding
invariant-loop-finding l =
    all_pass l.allowed (drop l.finding-index l.findings) ≡ all_pass l.allowed l.findings
