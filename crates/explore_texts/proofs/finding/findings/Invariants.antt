use Rattle.std.proofs.Common.{take}
use Rattle.std.specs.List.{AllZip}
use Rattle.explorer.specs.Subject.{subject}
use Rattle.explore_texts.specs.Findings.{IsFinding}
use Rattle.explore_texts.proofs.finding.findings.Given as goal

abbrev pub invariant-loop-alike : goal.invariant-loop-alike
invariant-loop-alike l =
    AllZip
    (IsFinding l.json (subject l.trial) l.schedule l.before.observation.now l.before.looked.now)
    (take l.alike-index l.all) l.findings.items
