use Rattle.std.proofs.Common.{◌≤◌, ◌-◌, length, take}
use Rattle.std.specs.List.{AllZip}
use Rattle.explorer.specs.Subject.{subject}
use Rattle.explore_commands.specs.Injections.{IsCaseFinding}
use Rattle.explore_commands.proofs.faults.cases_found.Given as goal

-- the cases so far
abbrev pub invariant-loop-alloc : goal.invariant-loop-alloc
invariant-loop-alloc g l = record {
  found : AllZip (IsCaseFinding l.options (subject l.trial) l.before.observation.now l.before.looked.now)
      (take (length l.findings.items) l.cases) l.findings.items;
  within : length l.findings.items ≤ length l.cases;
}

-- the cases to come
abbrev pub decreases-loop-alloc : goal.decreases-loop-alloc
decreases-loop-alloc g l = length l.cases - length l.findings.items
